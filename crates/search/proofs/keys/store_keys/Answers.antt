-- `keys::store_keys` meets its contract. Assumes nothing.
use mathlib.Core.Path.{◌≡◌, sym, ◌∙◌, ap}
use mathlib.Core.Bool.{Bool, true, false}
use Prim.Native.Nat.{ℕ, ◌+◌, ◌*◌, ◌<◌}
use native.Mathlib.Omega.{arith}
use lib.ListN.{get_or, length-set}
use lib.IntN.{ℤ, pos, ◌+ℤ◌, ◌-ℤ◌, ◌*ℤ◌}
use mir.Syntax.{w16}
use mir.Val.{to_z, of_z, SFits}
use mir.Facts.{to_z-of_z, to_z_pos}
use Rattle.numbers.proofs.Int.{parts_sub, parts_fits}
use Rattle.numbers.proofs.Widths.{size_fits}
use Rattle.scan.proofs.ScanLaws.{holds_more}
use Rattle.lanes.proofs.WeightLaws.{blocks_le}
use Rattle.search.proofs.KeyLaws.{key_by, key_by_lem}
use Rattle.search.proofs.keys.store_keys.Goals as goal
use Rattle.search.proofs.keys.store_keys.Goals.{then-trues-row, else-trues-row}

-- twice the row, as the code makes it
double : (row : ℕ) → row < 256 → to_z w16 (of_z w16 (to_z w16 row *ℤ pos 2)) ≡ pos (2 * row)
double row h =
    let twice : to_z w16 row *ℤ pos 2 ≡ pos (2 * row) = rw (to_z_pos w16 {n = row} (omega arith)) (ap pos (omega arith)) in
    let fits : SFits w16 (to_z w16 row *ℤ pos 2) = rw twice (size_fits {z = pos (2 * row)} (omega arith)) in
    to_z-of_z fits ∙ twice

-- the key of a row, as the code makes it of what its value adds
key_made : (y : Bool) (row : ℕ) {more : ℤ} → row < 256 → more ≡ key_by y 0
    → to_z w16 (of_z w16 (to_z w16 (of_z w16 (to_z w16 row *ℤ pos 2)) +ℤ more)) ≡ key_by y row
key_made true row h is = rw (double row h, is) (to_z-of_z {w = w16} {z = pos (2 * row + 1)} (size_fits {z = pos (2 * row + 1)} (omega arith)))
key_made false row h is =
    let parts = parts_sub (pos (2 * row)) (pos 32768) in
    rw (double row h, is) (to_z-of_z {w = w16} {z = pos (2 * row) -ℤ pos 32768} (parts_fits {a = pos (2 * row) -ℤ pos 32768} (omega arith, omega arith)))

pub loop-row-preserved : goal.loop-row-preserved
loop-row-preserved c =
    let head = c.loop-row in
    let inside : head.row < 256 = omega (arith, c.block_count-rows.ensures, blocks_le c.args.table.n c.requires.n_bound.0) in
    let value = get_or c.args.trues.now head.row false in
    let flipped : to_z w16 c.if-trues-row.flipped-bits ≡ key_by value 0 =
    elim c.if-trues-row.branch [
      | then-trues-row w ↦ w.flipped-is ∙ sym (ap (λ (y : Bool). key_by y 0) w.if-trues-row.true)
      | else-trues-row w ↦ w.flipped-is ∙ sym (ap (λ (y : Bool). key_by y 0) w.if-trues-row.false)
    ] in
    (simp length-set head.invariant.0, holds_more _ head.row head.keys (omega arith) (key_made value head.row inside flipped) head.invariant.1)

pub returns : goal.returns
returns c r l = c.loop-row.invariant.1 r (omega (arith, c.block_count-rows.ensures)) ∙ key_by_lem c.args.table r (c.requires.n_bound.1 r l)
