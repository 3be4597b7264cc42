-- `sums::vector_of` meets its contract. Assumes nothing.
use mathlib.Core.Path.{◌≡◌, refl, sym, ◌∙◌, ap}
use mathlib.Core.List.{List}
use native.Mathlib.Omega.{arith}
use borrow.Author.Rules.{rules}
use lib.ListN.{get_or}
use lib.IntN.{ℤ, pos, ◌-ℤ◌}
use mir.Syntax.{w16, w32}
use mir.Val.{to_z, of_z, SFits}
use mir.Facts.{to_z-of_z}
use Rattle.numbers.proofs.Int.{one_part, parts_sub, back}
use Rattle.numbers.proofs.Widths.{fits_size, size_fits, wide_back}
use Rattle.numbers.proofs.TabulateLaws.{tabulate_get_d, filled_none, filled_more, filled_all}
use Rattle.function.proofs.VectorLaws.{vector_eq}
use Rattle.lanes.proofs.WeightLaws.{sums_threshold}
use Rattle.lanes.proofs.sums.vector_of.Goals as goal
use Rattle.lanes.proofs.sums.vector_of.Invariants.{weight, zeros}

pub loop-place-init : goal.loop-place-init
loop-place-init c v e = filled_none (weight v) zeros

pub loop-place-preserved : goal.loop-place-preserved
loop-place-preserved c v e =
    filled_more (weight v) zeros c.loop-place.place (omega arith) (c.loop-place.invariant v e)
    (back w32 c.weight_at.type_inv ∙ c.weight_at.ensures v e)

-- b, which the code takes from 0 at 32 bits
threshold_is : (x : ℤ) → SFits w16 x → to_z w32 (of_z w32 (pos 0 -ℤ to_z w32 (of_z w32 (to_z w16 (of_z w16 x))))) ≡ pos 0 -ℤ x
threshold_is x f =
    let fits : SFits w32 (pos 0 -ℤ x) = size_fits (omega (arith, parts_sub (pos 0) x, one_part (pos 0 -ℤ x), fits_size f)) in
    ap (λ (z : ℤ). to_z w32 (of_z w32 (pos 0 -ℤ z))) (wide_back w32 tt f) ∙ to_z-of_z fits

pub returns : goal.returns
returns c v eight e =
    let first : SFits w16 (get_or c.args.sums.now 0 (pos 0)) = search rules in
    vector_eq _ _
    (filled_all (weight v) zeros c.loop-place.place 8 (omega arith) (omega arith) (c.loop-place.invariant v e)
    ∙ sym (tabulate_get_d (weight v) 8 (pos 0) v.a eight (λ i h. refl)))
    (threshold_is (get_or c.args.sums.now 0 (pos 0)) first
    ∙ ap (λ (l : List ℤ). pos 0 -ℤ get_or l 0 (pos 0)) e
    ∙ sym (sums_threshold v))
