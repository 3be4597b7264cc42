-- `scan::search_block` meets its contract. Assumes nothing.
use Rattle.std.proofs.Common.{◌≡◌, Bool, ℕ, ◌+◌, ◌<◌, get_or, ℤ, pos, nat_abs, ◌+ℤ◌, sym, ◌∙◌, ap₂, arith}
use native.Mathlib.Nat.{add_assoc}
use mir.Syntax.{w32, w64}
use mir.Val.{to_z, of_z, SFits}
use mir.Facts.{to_z-of_z}
use Rattle.numbers.proofs.FirstLaws.{first_at, first_fails}
use Rattle.numbers.proofs.Int.{nat_abs_parts, size_add}
use Rattle.numbers.proofs.Widths.{size_fits, wide_back}
use Rattle.scan.specs.Scan.{fails_at, doubled}
use Rattle.scan.proofs.ScanLaws.{Passed, passed_more, doubled_low, doubled_high, fails_at_test}
use Rattle.scan.proofs.scan.search_block.Goals as goal
use Rattle.scan.proofs.scan.search_block.Goals.{At-loop-at, In-loop-at, After-fails_in, Start}

-- a distance that came in and the weight, each read from its bits, add up to their sum, which fits
adds : {x : ℤ} (from weight : ℤ) → x ≡ from → nat_abs from + nat_abs weight < 2147483648
    → (to_z w32 (of_z w32 x) +ℤ to_z w32 (of_z w32 weight) ≡ from +ℤ weight) × SFits w32 (to_z w32 (of_z w32 x) +ℤ to_z w32 (of_z w32 weight))
adds {x} from weight e small =
    let fits : SFits w32 from = size_fits (omega (arith, nat_abs_parts from)) in
    let added : SFits w32 weight = size_fits (omega (arith, nat_abs_parts weight)) in
    let read : to_z w32 (of_z w32 x) +ℤ to_z w32 (of_z w32 weight) ≡ from +ℤ weight = rw e (ap₂ ◌+ℤ◌ (to_z-of_z fits) (to_z-of_z added)) in
    (read, rw read (size_fits (omega (arith, size_add from weight, nat_abs_parts from, nat_abs_parts weight))))

-- the rows' distances, and whether they fail
abbrev away : Start → ℕ → ℤ
away c = doubled c.args.half c.args.weight c.args.distances.now

abbrev fails : Start → ℕ → Bool
fails c = fails_at c.args.cares.now c.args.values.now (away c)

passed : (c : At-loop-at) → Passed c.args.cares.now c.args.values.now (away c.before) c.args.half (c.args.half + c.loop-at.at) c.loop-at.distances
passed c = c.loop-at.invariant _ (sym (to_z-of_z c.ranges.weight))

-- the distance that the code stores fits, and is the row's
abbrev sum : In-loop-at → ℤ
sum c = to_z w32 (of_z w32 (get_or c.loop-at.distances c.loop-at.at (pos 0))) +ℤ to_z w32 (of_z w32 c.args.weight)

stored : (c : In-loop-at) → (sum c ≡ away c.before.before (c.args.half + c.loop-at.at)) × SFits w32 (sum c)
stored c =
    let a = c.args in
    let at = c.loop-at.at in
    let kept = (passed c.before).holds at (omega arith) ∙ doubled_low a.half a.weight a.distances.now at (omega arith) in
    let both = adds _ a.weight kept (c.requires.sums_fit at (omega arith)) in
    (both.0 ∙ sym (doubled_high a.half a.weight a.distances.now at), both.1)

pub loop-at-init : goal.loop-at-init
loop-at-init c = λ w e. record {
  holds = λ r l. sym (doubled_low _ _ _ r (omega arith));
  none_fails = λ r g l. absurd (omega arith);
}

pub overflow_add-distance : goal.overflow_add-distance
overflow_add-distance c = (stored (goal.at.overflow_add-distance c).In-loop-at).1

pub returns-then-fails_in-clause-value : goal.returns-then-fails_in-clause-value
returns-then-fails_in-clause-value c =
    let at = goal.at.returns-then-fails_in-clause-value c in
    let (is, fits) = stored at.In-loop-at in
    sym
    (first_at (fails at.Start) c.args.half c.args.half _
    record {
      start = omega arith;
      inside = omega arith;
      passes = sym (fails_at_test _ _ _ _ c.fails_in.ensures (wide_back w64 tt fits ∙ is)) ∙ c.if-fails_in.true;
      before = (passed at.At-loop-at).none_fails;
    })

pub loop-at-preserved : goal.loop-at-preserved
loop-at-preserved c =
    let at = goal.at.loop-at-preserved c in
    let (is, fits) = stored at.In-loop-at in
    let tested = fails_at_test _ _ (away at.Start) _ c.fails_in.ensures (wide_back w64 tt fits ∙ is) in
    λ w e. rw (e ∙ to_z-of_z c.ranges.weight, ← add_assoc c.args.half c.loop-at.at 1)
    (passed_more _ _ _ _ _ _ _ (omega arith) (to_z-of_z fits ∙ is) (sym tested ∙ c.if-fails_in.false) (passed at.At-loop-at))

pub returns-clause-value : goal.returns-clause-value
returns-clause-value c =
    let at = goal.at.returns-clause-value c in
    sym (first_fails (fails at.Start) _ _ (λ r g l. (passed at.At-loop-at).none_fails r g (omega arith)))
