-- `chunk::chunk` meets its contract. The loop's invariant is `Going` of ChunkLaws, which has the laws of a pass. Assumes nothing.
use Rattle.std.specs.Prelude.{◌+◌, ◌/◌}
use mathlib.Core.Bool.{false}
use mathlib.Core.Path.{refl, sym, ◌∙◌, ap, ap₂}
use native.Mathlib.Omega.{arith}
use borrow.Author.Tests.{eq-eqb, ne_eqb}
use Rattle.numbers.proofs.TabulateLaws.{filled}
use Rattle.machine.specs.Core.{state_of}
use Rattle.function.specs.Witness.{one_more}
use Rattle.chunks.proofs.ClearLaws.{uncounted}
use Rattle.chunks.proofs.FollowLaws.{Follows, follows_start, restores}
use Rattle.chunks.proofs.ChunkLaws.{Begun, going_still, going_passed, going_on, going_ends, follows_narrow, follows_passed, passed_bounded, passed_row, passed_code, passed_cleared, passed_closed, passed_marked, passed_other}
use Rattle.chunks.proofs.chunk.chunk.Goals as goal
use Rattle.chunks.proofs.chunk.chunk.Goals.{Start, then-same_sums, else-same_sums, Joined-top_power-j, then-top_power-j, else-top_power-j, else-loop-test, then-loop-test+in_default}

-- what the function asks of the state and the budget that it begins with
begun : (c : Start) → Begun c.args.table (state_of c.args.core c.args.counts.now) c.args.budget
begun c =
    let r = c.requires in
    record { inputs = r.n_bound.0; sound = r.n_bound.1; capped = r.n_bound.3; few = r.budget_bound.0 }

-- ---- before the loop
pub lowest-next-requires-clause-narrow : goal.lowest-next-requires-clause-narrow
lowest-next-requires-clause-narrow c =
    let r = c.requires in
    follows_narrow (begun (goal.at.lowest-next-requires-clause-narrow c).Start) (omega arith)
    (follows_start r.n_bound.1 r.n_bound.2 r.budget_bound.1 c.sums_of-v.ensures c.sums_of-s.ensures)

pub loop-init : goal.loop-init
loop-init c =
    let r = c.requires in
    going_on {looped = false} refl
    (follows_passed (begun (goal.at.loop-init c).Start) (omega arith)
    (follows_start r.n_bound.1 r.n_bound.2 r.budget_bound.1 c.sums_of-v.ensures c.sums_of-s.ensures)
    c.lowest-next.ensures)

-- ---- the row of a pass: no number of the pass's state wraps
pub overflow_add-j : goal.overflow_add-j
overflow_add-j c = record { fits = omega (arith, (passed_bounded (begun (goal.at.overflow_add-j c).Start) (going_passed c.loop.invariant c.in-Some.is)).capped) }

pub offset_bounds-counts-code : goal.offset_bounds-counts-code
offset_bounds-counts-code c = record { fits = omega (arith, passed_row (begun (goal.at.offset_bounds-counts-code c).Start) (going_passed c.loop.invariant c.in-Some.is) c.in-Some.is) }

pub bounds-counts-code : goal.bounds-counts-code
bounds-counts-code c = passed_row (begun (goal.at.bounds-counts-code c).Start) (going_passed c.loop.invariant c.in-Some.is) c.in-Some.is

pub overflow_add-counts : goal.overflow_add-counts
overflow_add-counts c =
    record { fits = omega (arith, (passed_bounded (begun (goal.at.overflow_add-counts c).Start) (going_passed c.loop.invariant c.in-Some.is)).count (c.in-Some.code / 2)) }

pub bounds-counts-code-in-loop : goal.bounds-counts-code-in-loop
bounds-counts-code-in-loop c = passed_row (begun (goal.at.bounds-counts-code-in-loop c).Start) (going_passed c.loop.invariant c.in-Some.is) c.in-Some.is

-- ---- the correction
pub correct-requires : goal.correct-requires
correct-requires c =
    let from = begun (goal.at.correct-requires c).Start in
    let pass = going_passed c.loop.invariant c.in-Some.is in
    (passed_code from pass c.in-Some.is, c.requires.budget_bound.3, (follows_narrow from pass.within pass.follows).0)

-- ---- what follows it
-- where the loop goes on, it stands at the next step
on : (c : Joined-top_power-j) → Follows c.args.table (state_of c.args.core c.args.counts.now) (c.loop.counter + 1) (state_of c.if-top_power-j.j c.if-top_power-j.counts) c.correct.new.sums c.if-top_power-j.s
on c =
    let from = begun (goal.at.Joined-top_power-j c).Start in
    let pass = going_passed c.loop.invariant c.in-Some.is in
    elim c.if-top_power-j.branch [
      | then-top_power-j y ↦
          let cleared = y.clear.ensures ∙ ap (filled uncounted (one_more (c.in-Some.code / 2) c.loop.counts)) y.row_count.ensures in
          passed_marked from pass c.in-Some.is c.correct.ensures c.same_sums.ensures c.if-same_sums.false
          (eq-eqb _ _ (sym c.top_power.ensures ∙ y.if-top_power-j.true))
          (ap₂ state_of y.j-is (y.counts-is ∙ passed_cleared from pass c.in-Some.is cleared)) y.s-is
      | else-top_power-j y ↦
          passed_other from pass c.in-Some.is c.correct.ensures c.same_sums.ensures c.if-same_sums.false
          (ne_eqb _ _ (λ e. y.if-top_power-j.false (c.top_power.ensures ∙ e)))
          (ap₂ state_of y.j-is y.counts-is) y.s-is
    ]

pub lowest-next-requires-else-same_sums-clause-narrow : goal.lowest-next-requires-else-same_sums-clause-narrow
lowest-next-requires-else-same_sums-clause-narrow c =
    let at = goal.at.lowest-next-requires-else-same_sums-clause-narrow c in
    follows_narrow (begun at.Start) (omega arith) (on at.Joined-top_power-j)

pub loop-preserved : goal.loop-preserved
loop-preserved c =
    let from = begun (goal.at.loop-preserved c).Start in
    let pass = going_passed c.loop.invariant c.in-Some.is in
    elim c.if-same_sums.branch [
      | then-same_sums w ↦
          passed_closed from pass c.in-Some.is c.correct.ensures c.same_sums.ensures c.loop-test.true w.if-same_sums.true (ap₂ state_of w.j-is w.counts-is) w.s-is w.next-is w.looped-is
      | else-same_sums w ↦
          rw (w.counts-is, w.j-is, w.s-is, w.next-is)
          (going_on (w.looped-is ∙ going_still c.loop.invariant c.in-Some.is)
          (follows_passed from (omega arith)
          (elim w.if-top_power-j.branch [
            | then-top_power-j y ↦
                let cleared = y.clear.ensures ∙ ap (filled uncounted (one_more (c.in-Some.code / 2) c.loop.counts)) y.row_count.ensures in
                passed_marked from pass c.in-Some.is c.correct.ensures c.same_sums.ensures w.if-same_sums.false
                (eq-eqb _ _ (sym w.top_power.ensures ∙ y.if-top_power-j.true))
                (ap₂ state_of y.j-is (y.counts-is ∙ passed_cleared from pass c.in-Some.is cleared)) y.s-is
            | else-top_power-j y ↦
                passed_other from pass c.in-Some.is c.correct.ensures c.same_sums.ensures w.if-same_sums.false
                (ne_eqb _ _ (λ e. y.if-top_power-j.false (w.top_power.ensures ∙ e)))
                (ap₂ state_of y.j-is y.counts-is) y.s-is
          ])
          w.lowest-next-else-same_sums.ensures))
    ]

-- ---- after the loop
pub returns : goal.returns
returns c =
    let from = begun (goal.at.returns c).Start in
    rw c.core_with.ensures
    (going_ends from c.loop.invariant c.stage_of.ensures
    (λ some. elim c.loop-test.branch [ else-loop-test w ↦ w.loop-test.false | then-loop-test+in_default w ↦ absurd (some w.in_default.is) ])
    (restores (state_of c.loop.j c.loop.counts) c.stage_of.result c.vector_of.result c.vector_of-2.result c.vector_of.ensures c.vector_of-2.ensures))
