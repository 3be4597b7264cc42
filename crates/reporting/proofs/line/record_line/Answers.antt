-- `line::record_line` meets its contract: the position, n, the verdict and a line feed are written one behind the other. Assumes nothing.
use mathlib.Core.List.{List, ◌++◌}
use Prim.Native.Nat.{ℕ, ◌≤◌}
use native.Mathlib.Omega.{arith}
use lib.ListN.{length, get_or}
use mir.Syntax.{w32}
use mir.Val.{Fits}
use borrow.Author.Rules.{rules}
use Rattle.job.specs.declared.job.Job.{Job}
use Rattle.text.specs.Text.{decimal, spaced, line_feed}
use Rattle.reporting.specs.Lines.{line_room, verdict_text, record_line}
use Rattle.text.proofs.FieldWriting.{Left, all_left, next_room, next_left, line_done}
use Rattle.reporting.proofs.RecordRoom.{JobFits, record_room}
use Rattle.notation.proofs.WeightLaws.{signed_fits_row}
use Rattle.reporting.proofs.line.record_line.Goals as goal
use Rattle.reporting.proofs.line.record_line.Goals.{Start}

-- the numbers of the job fit their types
job_fits : (s : Start) → JobFits s.args.job
job_fits s = record {
  k = search rules;
  count = λ r. let f : Fits w32 (get_or s.args.job.state.counts r 0) = search rules in omega arith;
  weights = search rules;
  weight = λ place. search (rules, signed_fits_row);
  threshold = search rules;
}

-- so its line has room
line_fits : (s : Start) → length (record_line s.args.position s.args.job) ≤ line_room
line_fits s = record_room s.args.job (job_fits s) s.args.position (search rules) s.requires.0

-- the fields, and the line from n on
abbrev number : ℕ → List ℕ
number n = spaced (decimal n)

abbrev verdict : Job → List ℕ
verdict j = verdict_text j.state.stage j

abbrev from_n : Job → List ℕ
from_n j = number j.table.n ++ (verdict j ++ line_feed)

-- what is left at first
at_position : (s : Start) → (let a = s.args in Left a.out.now 0 (record_line a.position a.job) a.out.now 0 (decimal a.position ++ from_n a.job))
unfolding record_line
at_position s = all_left s.args.out.now 0 (record_line s.args.position s.args.job) (omega (arith, s.requires.1, line_fits s))

pub put_decimal-here-requires : goal.put_decimal-here-requires
put_decimal-here-requires c = next_room (decimal c.args.position) (from_n c.args.job) (at_position (goal.at.put_decimal-here-requires c).Start)

pub put_number-here-requires : goal.put_number-here-requires
put_number-here-requires c =
    let a = c.args in
    let first = at_position (goal.at.put_number-here-requires c).Start in
    next_room (number a.job.table.n) (verdict a.job ++ line_feed) (next_left (decimal a.position) (from_n a.job) first c.put_decimal-here.ensures)

pub put_verdict-here-requires : goal.put_verdict-here-requires
put_verdict-here-requires c =
    let a = c.args in
    let first = at_position (goal.at.put_verdict-here-requires c).Start in
    let at_n = next_left (decimal a.position) (from_n a.job) first c.put_decimal-here.ensures in
    (c.requires.0, next_room (verdict a.job) line_feed (next_left (number a.job.table.n) (verdict a.job ++ line_feed) at_n c.put_number-here.ensures))

pub put_byte-requires : goal.put_byte-requires
put_byte-requires c =
    let a = c.args in
    let first = at_position (goal.at.put_byte-requires c).Start in
    let at_n = next_left (decimal a.position) (from_n a.job) first c.put_decimal-here.ensures in
    let at_verdict = next_left (number a.job.table.n) (verdict a.job ++ line_feed) at_n c.put_number-here.ensures in
    (next_left (verdict a.job) line_feed at_verdict c.put_verdict-here.ensures).room

pub returns : goal.returns
returns c =
    let a = c.args in
    let start = (goal.at.returns c).Start in
    let at_n = next_left (decimal a.position) (from_n a.job) (at_position start) c.put_decimal-here.ensures in
    let at_verdict = next_left (number a.job.table.n) (verdict a.job ++ line_feed) at_n c.put_number-here.ensures in
    let at_feed = next_left (verdict a.job) line_feed at_verdict c.put_verdict-here.ensures in
    let done = line_done at_feed c.put_byte.ensures (line_fits start) in
    record { put = done.0; upper_bound = done.1 }
