-- `size::is_small` meets its contract. No sum wraps, since b and each weight are in range. Assumes nothing.
use mathlib.Core.Path.{◌≡◌, ◌∙◌, ap}
use mathlib.Core.Bool.{true}
use Prim.Native.Nat.{ℕ, ◌+◌, ◌*◌, ◌≤◌, ◌<◌}
use native.Mathlib.Numerals.{add-one}
use native.Mathlib.Omega.{arith}
use lib.Dec.{leb}
use lib.ListN.{get_or}
use lib.IntN.{ℤ, pos, nat_abs}
use mir.Syntax.{w32}
use mir.Val.{to_z, of_z, SFits}
use mir.Facts.{to_z-of_z}
use Rattle.numbers.specs.Sum.{sum_below}
use Rattle.numbers.proofs.Int.{nat_abs_parts}
use Rattle.numbers.proofs.Widths.{size_fits}
use Rattle.numbers.proofs.SumLaws.{sum_below_zero, sum_below_suc, sum_below_most}
use Rattle.table.specs.Gate.{weight_limit, in_range}
use Rattle.types.specs.declared.vector.Vector.{Vector}
use Rattle.function.proofs.RangeLaws.{InRange, in_range_correct, in_range_at}
use Rattle.lanes.specs.Sums.{magnitude}
use Rattle.lanes.proofs.SumsLaws.{size_at}
use Rattle.lanes.proofs.size.is_small.Goals as goal

-- a number within the limit, read from its bits
read : (z : ℤ) → nat_abs z ≤ weight_limit → to_z w32 (of_z w32 z) ≡ z
read z h = let fits : SFits w32 z = size_fits (omega (arith, nat_abs_parts z)) in to_z-of_z fits

module _ (v : Vector) (range : in_range weight_limit 8 v.a v.b ≡ true) where
  within : InRange weight_limit 8 v.a v.b
  within = (in_range_correct weight_limit 8 v.a v.b).0 range

  -- b and each weight, as the code passes them on
  threshold_read : to_z w32 (of_z w32 v.b) ≡ v.b
  threshold_read = read v.b within.threshold

  weight_read : (place : ℕ) → place < 8 → to_z w32 (of_z w32 (get_or v.a place (pos 0))) ≡ get_or v.a place (pos 0)
  weight_read place h = read (get_or v.a place (pos 0)) (in_range_at within place h)

  -- the sum after a round
  next_sum : (place sum size : ℕ) → place < 8 → sum ≡ nat_abs v.b + sum_below place (size_at v.a)
      → size ≡ nat_abs (to_z w32 (of_z w32 (get_or v.a place (pos 0))))
      → sum + size ≡ nat_abs v.b + sum_below (place + 1) (size_at v.a)
  next_sum place sum size h so_far is =
      rw (add-one place, sum_below_suc place (size_at v.a)) (omega (arith, is ∙ ap nat_abs (weight_read place h)))

  sum_le : (places : ℕ) → places ≤ 8 → sum_below places (size_at v.a) ≤ places * weight_limit
  sum_le places h = sum_below_most places weight_limit (size_at v.a) (λ place l. in_range_at within place (omega arith))

pub absolute-sum-requires : goal.absolute-sum-requires
absolute-sum-requires c = rw (threshold_read c.args.v c.requires) (within c.args.v c.requires).threshold

pub loop-weight-init : goal.loop-weight-init
loop-weight-init c = omega (arith, sum_below_zero (size_at c.args.v.a), c.absolute-sum.ensures ∙ ap nat_abs (threshold_read c.args.v c.requires))

pub absolute-sum-requires-in-loop-weight : goal.absolute-sum-requires-in-loop-weight
absolute-sum-requires-in-loop-weight c =
    let at = c.loop-weight.weight-index in
    rw (weight_read c.args.v c.requires at (omega arith)) (in_range_at (within c.args.v c.requires) at (omega arith))

pub overflow_add-sum : goal.overflow_add-sum
overflow_add-sum c =
    let at = c.loop-weight in
    let next = next_sum c.args.v c.requires at.weight-index at.sum c.absolute-sum-in-loop-weight.result (omega arith) at.invariant c.absolute-sum-in-loop-weight.ensures in
    record { fits = omega (arith, next, sum_le c.args.v c.requires (at.weight-index + 1) (omega arith), (within c.args.v c.requires).threshold) }

pub loop-weight-preserved : goal.loop-weight-preserved
loop-weight-preserved c =
    let at = c.loop-weight in
    next_sum c.args.v c.requires at.weight-index at.sum c.absolute-sum-in-loop-weight.result (omega arith) at.invariant c.absolute-sum-in-loop-weight.ensures

pub returns : goal.returns
unfolding magnitude
returns c =
    let last : c.loop-weight.weight-index ≡ 8 = omega arith in
    let is : c.loop-weight.sum ≡ magnitude c.args.v = rw last at c.loop-weight.invariant in
    ap (λ (x : ℕ). leb x 9000) is
