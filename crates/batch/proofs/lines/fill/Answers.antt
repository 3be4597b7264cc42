-- `lines::fill` meets its contract. The loop's invariant: the lines that are counted stand in the buffer, and the report is as far as they
-- go. The measure is the rest of the buffer, since no line is empty. Assumes nothing.
use mathlib.Core.Path.{◌≡◌, sym, ◌∙◌}
use mathlib.Core.List.{◌++◌}
use Prim.Native.Nat.{◌+◌, ◌-◌, ◌≤◌}
use native.Mathlib.Omega.{arith}
use lib.ListN.{length, take, drop, length-drop}
use lib.Seq.{length-take-le}
use Rattle.batch.proofs.LeftLaws.{advance_moves}
use Rattle.batch.proofs.FillLaws.{Lined, lined_none, lined_length, lined_more, full_some, done_some}
use Rattle.batch.proofs.lines.fill.Goals as goal
use Rattle.batch.proofs.lines.fill.Goals.{After-next_line-line, At-loop-out}

pub loop-out-init : goal.loop-out-init
loop-out-init c = lined_none c.args.input.now c.args.progress c.args.out.now c.requires.1

-- the buffer keeps its length
kept : (c : At-loop-out) → length c.loop-out.out ≡ length c.args.out.now
kept c = let a = c.args in lined_length a.input.now a.progress a.out.now c.loop-out.invariant

pub overflow_sub-out : goal.overflow_sub-out
overflow_sub-out c = omega (arith, kept c, c.loop-out.invariant.fits)

pub slice_bounds-next_line-count : goal.slice_bounds-next_line-count
slice_bounds-next_line-count c = omega (arith, kept (goal.at.slice_bounds-next_line-count c).At-loop-out, c.loop-out.invariant.fits)

pub next_line-line-requires : goal.next_line-line-requires
next_line-line-requires c = (
  c.requires.0,
  c.loop-out.invariant.bounded,
  rw (length-take-le (length c.loop-out.out - c.loop-out.length) (drop c.loop-out.length c.loop-out.out) (omega (arith, length-drop c.loop-out.length c.loop-out.out))) c.loop-out-test.true,
  c.step_table-steps.ensures,
)

-- a line more: the report was not done, so that the line is not empty, and there is room for it
more : (c : After-next_line-line) → Lined c.args.input.now c.args.progress c.args.out.now
    (take c.loop-out.length c.loop-out.out ++ (c.next_line-line.new.out ++ drop (length c.loop-out.out - c.loop-out.length) (drop c.loop-out.length c.loop-out.out)))
    (c.loop-out.count + 1) (c.loop-out.length + c.next_line-line.result.length) c.next_line-line.result.next × (1 ≤ c.next_line-line.result.length)
more c =
    let a = c.args in
    let inv = c.loop-out.invariant in
    let wrote = c.next_line-line.ensures.made in
    let moves = advance_moves a.input.now c.loop-out.next (sym c.is_done.ensures ∙ c.if-not-is_done.true) in
    let same = lined_length a.input.now a.progress a.out.now inv in
    let some : 1 ≤ c.next_line-line.result.length = omega (arith, moves.0, wrote.0.0) in
    let room : c.loop-out.length + c.next_line-line.result.length ≤ length c.loop-out.out = omega (arith, same, inv.fits, c.loop-out-test.true, c.next_line-line.ensures.bounded.1) in
    (lined_more a.input.now a.progress a.out.now inv wrote some room c.next_line-line.ensures.bounded.0, some)

pub loop-out-smaller : goal.loop-out-smaller
loop-out-smaller c =
    let line = more (goal.at.loop-out-smaller c).After-next_line-line in
    omega (arith, line.1, line.0.fits)

pub loop-out-preserved : goal.loop-out-preserved
loop-out-preserved c = (more (goal.at.loop-out-preserved c).After-next_line-line).0

pub returns-else-not-is_done : goal.returns-else-not-is_done
returns-else-not-is_done c =
    let lined = c.loop-out.invariant in
    record { stand = lined.stand; fits = lined.fits; next = lined.next; bounded = lined.bounded; some = λ f. done_some lined (sym c.is_done.ensures ∙ c.if-not-is_done.false) f }

pub returns-after-loop-out : goal.returns-after-loop-out
returns-after-loop-out c =
    let lined = c.loop-out.invariant in
    let same = lined_length c.args.input.now c.args.progress c.args.out.now lined in
    record { stand = lined.stand; fits = lined.fits; next = lined.next; bounded = lined.bounded; some = λ f. full_some lined c.requires.2 (omega (arith, same, c.loop-out-test.false)) }
