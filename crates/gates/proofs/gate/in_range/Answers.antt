-- `gate::in_range` meets its contract. The loop's invariant: each weight below `place` is within its limit. Assumes nothing.
use mathlib.Core.Path.{◌≡◌, sym, ◌∙◌, ap, ap₂}
use mathlib.Core.Bool.{and-false, and-true}
use native.Mathlib.Omega.{arith}
use mir.Syntax.{w32}
use mir.Val.{to_z, of_z}
use Rattle.numbers.proofs.Int.{back}
use lib.ListN.{get_or}
use lib.IntN.{pos}
use borrow.Author.Rules.{rules}
use Rattle.numbers.proofs.TestLaws.{all_below_zero, all_below_more, all_below_fails}
use Rattle.table.specs.Gate.{within, in_range}
use Rattle.gates.proofs.gate.in_range.Goals as goal
use Rattle.gates.proofs.gate.in_range.Goals.{After-is_within}
use Rattle.gates.proofs.gate.in_range.Invariants.{fits}

-- what the call says of the weight, which is passed on by its bits
tested : (c : After-is_within) → fits c.args.limit c.args.n c.args.weights c.loop-place.place ≡ c.is_within.result
tested c = sym (c.is_within.ensures ∙ ap₂ within c.place_limit.ensures (back w32 {a = get_or c.args.weights c.loop-place.place (pos 0)} (search rules)))

pub loop-place-init : goal.loop-place-init
loop-place-init c = all_below_zero _

pub returns-then-not-is_within : goal.returns-then-not-is_within
unfolding in_range
returns-then-not-is_within c =
    let a = c.args in
    let fails = tested (goal.at.returns-then-not-is_within c).After-is_within ∙ c.if-not-is_within.true in
    sym (rw (all_below_fails 8 (fits a.limit a.n a.weights) c.loop-place.place (omega arith) fails) (and-false (within a.limit a.threshold)))

pub loop-place-preserved : goal.loop-place-preserved
loop-place-preserved c =
    all_below_more c.loop-place.place _ c.loop-place.invariant (tested (goal.at.loop-place-preserved c).After-is_within ∙ c.if-not-is_within.false)

pub returns : goal.returns
unfolding in_range
returns c =
    let a = c.args in
    let end : c.loop-place.place ≡ 8 = omega arith in
    let all = rw end at c.loop-place.invariant in
    let read : to_z w32 (of_z w32 a.threshold) ≡ a.threshold = search rules in
    c.is_within-2.ensures ∙ ap (within a.limit) read ∙ sym (rw all (and-true (within a.limit a.threshold)))
