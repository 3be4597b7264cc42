-- `keys::store_trues` meets its contract. Assumes nothing.
use mathlib.Core.Path.{◌≡◌, refl, sym, ◌∙◌, ap}
use mathlib.Core.Bool.{Bool, true, false, not}
use Prim.Native.Nat.{ℕ, ◌<◌, ◌%◌}
use native.Mathlib.Nat.{mod-lt}
use native.Mathlib.Omega.{arith}
use lib.Pow.{pow_pos}
use lib.ListN.{get_or, length-set}
use lib.IntN.{ℤ, pos}
use mir.Syntax.{w16}
use mir.Val.{to_z, of_z, bool_byte}
use Rattle.types.specs.declared.table.Table.{Table}
use Rattle.table.specs.Table.{rows, cared}
use Rattle.scan.proofs.ScanLaws.{holds_more}
use Rattle.lanes.specs.Blocks.{lane_cared}
use Rattle.lanes.proofs.WeightLaws.{blocks_le}
use Rattle.search.proofs.KeyLaws.{one_from, one_from_lem}
use Rattle.search.proofs.keys.store_trues.Goals as goal

one_made : (goes : Bool) → to_z w16 (of_z w16 (pos (bool_byte goes))) ≡ one_from false goes
one_made true = refl
one_made false = refl

pub loop-row-preserved : goal.loop-row-preserved
loop-row-preserved c =
    let head = c.loop-row in
    let inside : head.row < 256 = omega (arith, c.block_count-rows.ensures, blocks_le c.args.table.n c.requires.n_bound.0) in (
      simp length-set head.invariant.0,
      holds_more _ head.row head.ones (omega arith)
          (ap (λ (z : ℤ). to_z w16 (of_z w16 z)) c.from.ensures ∙ one_made (get_or c.args.trues.now head.row false))
          head.invariant.1,
    )

-- every row of the blocks repeats one that is cared for
lane_cared_lem : (t : Table) (r : ℕ) → ((row : ℕ) → row < rows t → cared t row ≡ true) → lane_cared t r ≡ true
unfolding lane_cared
lane_cared_lem t r all = all (r % rows t) (mod-lt r (pow_pos t.n))

pub returns : goal.returns
returns c r l =
    c.loop-row.invariant.1 r (omega (arith, c.block_count-rows.ensures))
    ∙ one_from_lem c.args.table r (sym (ap not (lane_cared_lem c.args.table r c.requires.n_bound.1))) (c.requires.trues_are.0 r l)
