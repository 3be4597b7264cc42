-- `sums::double` meets its contract. Assumes nothing.
use mathlib.Core.Path.{◌≡◌, ◌∙◌, ap}
use Prim.Native.Nat.{◌+◌, ◌^◌, ◌<◌}
use native.Mathlib.Omega.{arith}
use borrow.Author.Rules.{rules}
use lib.ListN.{get_or}
use lib.IntN.{ℤ, pos, nat_abs, ◌+ℤ◌}
use mir.Syntax.{w16}
use mir.Val.{to_z, of_z, SFits}
use mir.Facts.{to_z-of_z}
use Rattle.numbers.proofs.Int.{nat_abs_parts}
use Rattle.numbers.proofs.Widths.{size_fits}
use Rattle.lanes.proofs.DoublingLaws.{doubled_more}
use Rattle.lanes.proofs.sums.double.Goals as goal

-- what is read is the sum as it came, and fits with the weight
module _ {sum old weight : ℤ} (sum_fits : SFits w16 sum) (is : sum ≡ old) (weight_fits : SFits w16 weight) where
  pub read : to_z w16 (of_z w16 sum) +ℤ to_z w16 (of_z w16 weight) ≡ old +ℤ to_z w16 (of_z w16 weight)
  read = ap (λ (z : ℤ). z +ℤ to_z w16 (of_z w16 weight)) (to_z-of_z sum_fits ∙ is)

  pub made_fits : nat_abs (old +ℤ weight) < 2 ^ 15 → SFits w16 (to_z w16 (of_z w16 sum) +ℤ to_z w16 (of_z w16 weight))
  made_fits small = rw (read, to_z-of_z weight_fits) (size_fits (omega (arith, small, nat_abs_parts (old +ℤ weight))))

pub loop-at-preserved : goal.loop-at-preserved
loop-at-preserved c =
    let fits : SFits w16 (get_or c.loop-at.sums (c.args.from + c.loop-at.at) (pos 0)) = search rules in
    let is = c.loop-at.invariant.before (c.args.from + c.loop-at.at) (omega arith) in
    let doubled = c.loop-at.invariant in
    doubled_more _ _ _ _ c.loop-at.at _ (omega (arith, doubled.size))
    (to_z-of_z (made_fits fits is c.ranges.weight (c.requires.sums_fit c.loop-at.at c.loop-at-test.true)) ∙ read fits is c.ranges.weight)
    doubled
