-- `keys::store_ones` meets its contract. Assumes nothing.
use mathlib.Core.Path.{◌≡◌, refl, ◌∙◌}
use mathlib.Core.Bool.{Bool, true, false}
use Prim.Native.Nat.{◌<◌}
use native.Mathlib.Omega.{arith}
use lib.ListN.{get_or, length-set}
use lib.IntN.{ℤ, pos, ◌+ℤ◌, ◌*ℤ◌}
use mir.Syntax.{w16}
use mir.Val.{to_z, of_z, bool_byte}
use Rattle.scan.proofs.ScanLaws.{holds_more}
use Rattle.lanes.proofs.WeightLaws.{blocks_le}
use Rattle.search.proofs.KeyLaws.{one_from, one_from_lem}
use Rattle.search.proofs.keys.store_ones.Goals as goal

-- the product and the sum of two bits, as the code makes them
abbrev bit : Bool → ℤ
bit b = to_z w16 (of_z w16 (pos (bool_byte b)))

one_made : (free goes : Bool) → to_z w16 (of_z w16 (bit goes +ℤ to_z w16 (of_z w16 (bit free *ℤ pos 16384)))) ≡ one_from free goes
one_made true true = refl
one_made true false = refl
one_made false true = refl
one_made false false = refl

pub loop-row-preserved : goal.loop-row-preserved
loop-row-preserved c =
    let head = c.loop-row in
    let inside : head.row < 256 = omega (arith, c.block_count-rows.ensures, blocks_le c.args.table.n c.requires.n_bound.0) in (
      simp length-set head.invariant.0,
      holds_more _ head.row head.ones (omega arith)
          (rw (c.from.ensures, c.from-in-loop-row.ensures) (one_made (get_or c.args.frees.now head.row false) (get_or c.args.trues.now head.row false)))
          head.invariant.1,
    )

pub returns : goal.returns
returns c r l =
    c.loop-row.invariant.1 r (omega (arith, c.block_count-rows.ensures))
    ∙ one_from_lem c.args.table r (c.requires.n_bound.1 r l) (c.requires.trues_are.0 r l)
