use Rattle.std.proofs.Common.{◌≤◌}
use Rattle.jobs_main.proofs.call.failing_rows.Given as goal

abbrev pub invariant-loop-row : goal.invariant-loop-row
invariant-loop-row l = l.failing ≤ l.row
