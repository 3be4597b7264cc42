-- `stepping::plain_steps` meets its contract. Assumes nothing.
use Rattle.std.specs.Prelude.{Option, Some, None, is_some, Bool, true, false, not, ◌≡◌, ℕ, ◌+◌, ◌<◌, ◌≤◌}
use mathlib.Core.Path.{refl, sym, ◌∙◌, ap}
use native.Mathlib.Omega.{arith}
use borrow.Author.Tests.{eq-eqb, ne_eqb}
use Rattle.numbers.proofs.TestLaws.{no_true}
use Rattle.table.specs.Table.{function_of}
use Rattle.table.proofs.TableLaws.{rows_le}
use Rattle.types.specs.declared.table.Table.{Table}
use Rattle.types.specs.declared.state.State.{State}
use Rattle.state.specs.Machine.{run}
use Rattle.state.specs.Sound.{cap, Sound}
use Rattle.types.specs.declared.stage.Stage.TheVariants.{Open}
use Rattle.state.proofs.MachineLaws.{marked_power, marked_other}
use Rattle.chunks.proofs.UnsettledLaws.{Unsettled, unsettled_start, unsettled_found, unsettled_row, unsettled_open, unsettled_looped, corrected_to, unsettled_next, Bounded, unsettled_bounded}
use Rattle.stepping.proofs.stepping.plain_steps.Goals as goal
use Rattle.stepping.proofs.stepping.plain_steps.Invariants.{Turned}
use Rattle.stepping.proofs.stepping.plain_steps.Goals.{Joined-top_power-j, then-top_power-j, else-top_power-j, else-loop-test, then-loop-test+in_default}

-- ---- before the loop
pub first_failing-next-requires-clause-n_bound : goal.first_failing-next-requires-clause-n_bound
first_failing-next-requires-clause-n_bound c =
    let p = c.requires in
    (p.0, (unsettled_bounded p.0 p.1 (omega arith) (unsettled_start p.1 p.2)).ranged)

pub loop-init : goal.loop-init
loop-init c =
    let p = c.requires in
    record { unsettled = unsettled_start p.1 p.2; search = c.first_failing-next.ensures; within = omega arith }

-- ---- at the loop's head
-- no number of the loop's state wraps in a step
bounded : {t : Table} {start : State} {budget made : ℕ} {x : State} {next : Option ℕ}
    → (t.n ≤ 8) × Sound (function_of t) start × (start.stage ≡ Open) × (start.k + budget ≤ cap) → Turned t start budget made x next → Bounded t x
bounded {start = start} {made = made} p turned =
    let few : start.k + made ≤ cap = omega (arith, p.3, turned.within) in
    unsettled_bounded p.0 p.1 few turned.unsettled

-- the row of a pass is one of the 256
row_below : {t : Table} {start : State} {budget made : ℕ} {x : State} {next : Option ℕ} {row : ℕ} → t.n ≤ 8
    → Turned t start budget made x next → next ≡ Some row → row < 256
row_below few turned is = omega (arith, unsettled_row turned.unsettled (sym turned.search ∙ is), rows_le few)

-- ---- the correction
pub row_value-requires : goal.row_value-requires
row_value-requires c = row_below c.requires.0 c.loop.invariant c.in-Some.is

pub corrected_by-v-requires : goal.corrected_by-v-requires
corrected_by-v-requires c = (row_below c.requires.0 c.loop.invariant c.in-Some.is, (bounded c.requires c.loop.invariant).ranged)

pub overflow_add-j : goal.overflow_add-j
overflow_add-j c = record { fits = omega (arith, (bounded c.requires c.loop.invariant).capped) }

pub offset_bounds-j-row : goal.offset_bounds-j-row
offset_bounds-j-row c = record { fits = omega (arith, row_below c.requires.0 c.loop.invariant c.in-Some.is) }

pub bounds-j-row : goal.bounds-j-row
bounds-j-row c = row_below c.requires.0 c.loop.invariant c.in-Some.is

pub overflow_add-j-in-loop : goal.overflow_add-j-in-loop
overflow_add-j-in-loop c = record { fits = omega (arith, (bounded c.requires c.loop.invariant).count c.in-Some.row) }

pub bounds-j-row-in-loop : goal.bounds-j-row-in-loop
bounds-j-row-in-loop c = row_below c.requires.0 c.loop.invariant c.in-Some.is

-- ---- what follows it
pub returns-then-same_vector : goal.returns-then-same_vector
returns-then-same_vector c =
    let inv = c.loop.invariant in
    unsettled_looped inv.unsettled (sym inv.search ∙ c.in-Some.is) c.row_value.ensures c.corrected_by-v.ensures _ c.loop-test.true
    (sym c.same_vector.ensures ∙ c.if-same_vector.true)

-- past step 4 the state stands at the next step
unsettled_on : (c : Joined-top_power-j) → Unsettled c.args.table c.args.state (c.loop.counter + 1) c.if-top_power-j.j
unsettled_on c =
    let inv = c.loop.invariant in
    let x = corrected_to c.in-Some.row c.corrected_by-v.result c.loop.j in
    let power = c.top_power.ensures in
    unsettled_next inv.unsettled (sym inv.search ∙ c.in-Some.is) c.row_value.ensures c.corrected_by-v.ensures
    (sym c.same_vector.ensures ∙ c.if-same_vector.false)
    (elim c.if-top_power-j.branch [
      | then-top_power-j w ↦ w.j-is ∙ sym (marked_power x (eq-eqb _ _ (sym power ∙ w.if-top_power-j.true)))
      | else-top_power-j w ↦ w.j-is ∙ sym (marked_other x (ne_eqb _ _ (λ e. w.if-top_power-j.false (power ∙ e))))
    ])

pub first_failing-next-requires-in-loop-clause-n_bound : goal.first_failing-next-requires-in-loop-clause-n_bound
first_failing-next-requires-in-loop-clause-n_bound c =
    let p = c.requires in
    let few : c.args.state.k + (c.loop.counter + 1) ≤ cap = omega (arith, p.3) in
    let on = unsettled_on (goal.at.first_failing-next-requires-in-loop-clause-n_bound c).Joined-top_power-j in
    (p.0, (unsettled_bounded p.0 p.1 few on).ranged)

pub loop-preserved : goal.loop-preserved
loop-preserved c = record {
  unsettled = unsettled_on (goal.at.loop-preserved c).Joined-top_power-j;
  search = c.first_failing-next-in-loop.ensures;
  within = omega arith;
}

-- ---- after the loop
-- what the search found, by the test
none_is : (next : Option ℕ) (none : Bool) → is_some next ≡ not none → none ≡ true → next ≡ None
none_is None none e f = refl
none_is (Some row) none e f = absurd (no_true (sym (e ∙ ap not f)))

some_is : (next : Option ℕ) (none : Bool) → is_some next ≡ not none → none ≡ false → (row : ℕ) × (next ≡ Some row)
some_is None none e f = absurd (no_true (e ∙ ap not f))
some_is (Some row) none e f = (row, refl)

pub returns-then-is_none : goal.returns-then-is_none
returns-then-is_none c =
    let inv = c.loop.invariant in
    unsettled_found inv.unsettled _ inv.within (sym inv.search ∙ none_is c.loop.next c.is_none.result c.is_none.ensures c.if-is_none.true)

pub returns-else-is_none : goal.returns-else-is_none
returns-else-is_none c =
    let inv = c.loop.invariant in
    let found = some_is c.loop.next c.is_none.result c.is_none.ensures c.if-is_none.false in
    let all : c.args.budget ≤ c.loop.counter =
    elim c.loop-test.branch [
      | else-loop-test w ↦ w.loop-test.false
      | then-loop-test+in_default w ↦ absurd (no_true (sym (ap is_some w.in_default.is) ∙ c.is_none.ensures ∙ ap not c.if-is_none.false))
    ]
    in
    unsettled_open inv.unsettled (sym inv.search ∙ found.1) ∙ ap (λ (m : ℕ). run (function_of c.args.table) m c.args.state) (omega (arith, inv.within))
