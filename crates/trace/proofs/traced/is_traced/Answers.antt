-- The sums that the calls gave are the sides' own, so that the code's tests are those of the definition, one input after the other.
-- Assumes nothing.
use Rattle.std.specs.Prelude.{◌≡◌, ℕ, suc, ◌+◌, ◌^◌, ◌<◌, ◌≤◌, Bool, true, false, ◌&&◌, eqb, pos, ◌+ℤ◌}
use mathlib.Core.Path.{sym, ◌∙◌, ap₂}
use native.Mathlib.Omega.{arith}
use mir.Syntax.{w32}
use mir.Val.{Fits}
use borrow.Author.Rules.{rules}
use borrow.Author.Tests.{eq-eqb, ne_eqb}
use Rattle.numbers.specs.Tests.{all_below, same_z}
use Rattle.numbers.proofs.TestLaws.{all_below_zero, all_below_more, all_below_fails, all_below_cong}
use Rattle.function.specs.Witness.{side_sum, count_of}
use Rattle.function.specs.Vector.{component}
use Rattle.sides.proofs.SideLaws.{side_sum_lt, sum_at}
use Rattle.table.specs.Table.{function_of}
use Rattle.machine.specs.Core.{state_of}
use Rattle.state.specs.Sound.{is_traced}
use Rattle.trace.proofs.traced.is_traced.Goals as goal
use Rattle.trace.proofs.traced.is_traced.Goals.{After-side_sums-taken, Start}
use Rattle.trace.proofs.traced.is_traced.Invariants.{traced_by, sum_in}

-- the sums of the sides, which are below 2^40
abbrev sum_of : After-side_sums-taken → Bool → ℕ → ℕ
sum_of c side = side_sum (function_of c.args.table) side (count_of c.args.counts.now)

sum_lt : (c : After-side_sums-taken) (side : Bool) (i : ℕ) → sum_of c side i < 2 ^ 40
sum_lt c side i = side_sum_lt c.args.table side c.args.counts.now i c.requires.0 (λ r. omega (arith, c.requires.1.fits r))

-- the calls gave them
added_is : (c : After-side_sums-taken) (i : ℕ) → i < 9 → sum_in c.side_sums-added.result i ≡ sum_of c true i
added_is c i h = sum_at _ i c.side_sums-added.ensures h

taken_is : (c : After-side_sums-taken) (i : ℕ) → i < 9 → sum_in c.side_sums-taken.result i ≡ sum_of c false i
taken_is c i h = sum_at _ i c.side_sums-taken.ensures h

-- the tests of the code
abbrev total : After-side_sums-taken → ℕ
total c = sum_in c.side_sums-added.result 0 + sum_in c.side_sums-taken.result 0

abbrev traced : After-side_sums-taken → ℕ → Bool
traced c = traced_by c.args.core.v c.args.core.s (sum_in c.side_sums-added.result) (sum_in c.side_sums-taken.result)

parts : (c : After-side_sums-taken)
    → is_traced (function_of c.args.table) (state_of c.args.core c.args.counts.now)
    ≡ (eqb (total c + c.args.core.mark) c.args.core.k && all_below (suc c.args.table.n) (traced c))
unfolding is_traced
parts c =
    sym
    (ap₂ (λ (sum : ℕ) (inputs : Bool). eqb (sum + c.args.core.mark) c.args.core.k && inputs)
    (ap₂ ◌+◌ (added_is c 0 (omega arith)) (taken_is c 0 (omega arith)))
    (all_below_cong (suc c.args.table.n) _ _
    (λ i h. ap₂ (λ (a b : ℕ). same_z (component c.args.core.v i +ℤ pos b) (component c.args.core.s i +ℤ pos a)) (added_is c i (omega (arith, c.requires.0)))
    (taken_is c i (omega (arith, c.requires.0))))))

total_lt : (c : After-side_sums-taken) → total c < 2 ^ 41
total_lt c = omega (arith, added_is c 0, taken_is c 0, sum_lt c true 0, sum_lt c false 0)

pub overflow_add-added : goal.overflow_add-added
overflow_add-added c = omega (arith, total_lt (goal.at.overflow_add-added c).After-side_sums-taken)

pub overflow_add-added-2 : goal.overflow_add-added-2
overflow_add-added-2 c =
    let mark : Fits w32 c.args.core.mark = search rules in
    omega (arith, total_lt (goal.at.overflow_add-added-2 c).After-side_sums-taken)

pub returns-then-added-taken : goal.returns-then-added-taken
returns-then-added-taken c = rw (parts (goal.at.returns-then-added-taken c).After-side_sums-taken, ne_eqb _ _ c.if-added-taken.true)

pub loop-input-init : goal.loop-input-init
loop-input-init c = all_below_zero _

pub traced_at-requires : goal.traced_at-requires
traced_at-requires c =
    let sums = (goal.at.traced_at-requires c).After-side_sums-taken in
    let input = c.loop-input.input in
    let few : input ≤ 8 = omega (arith, c.requires.0) in
    (few, rw (added_is sums input (omega arith)) (sum_lt sums true input), rw (taken_is sums input (omega arith)) (sum_lt sums false input))

pub returns-then-not-traced_at : goal.returns-then-not-traced_at
returns-then-not-traced_at c =
    let sums = (goal.at.returns-then-not-traced_at c).After-side_sums-taken in
    let fails = all_below_fails (suc c.args.table.n) (traced sums) c.loop-input.input (omega arith) (sym c.traced_at.ensures ∙ c.if-not-traced_at.true) in
    rw (parts sums, eq-eqb _ _ c.if-added-taken.false, fails)

pub loop-input-preserved : goal.loop-input-preserved
loop-input-preserved c = all_below_more c.loop-input.input _ c.loop-input.invariant (sym c.traced_at.ensures ∙ c.if-not-traced_at.false)

pub returns-else-not-traced_at : goal.returns-else-not-traced_at
returns-else-not-traced_at c =
    let sums = (goal.at.returns-else-not-traced_at c).After-side_sums-taken in
    let end : c.loop-input.input + 1 ≡ suc c.args.table.n = omega arith in
    let all = all_below_more c.loop-input.input (traced sums) c.loop-input.invariant (sym c.traced_at.ensures ∙ c.if-not-traced_at.false) in
    rw (parts sums, eq-eqb _ _ c.if-added-taken.false, rw end at all)
