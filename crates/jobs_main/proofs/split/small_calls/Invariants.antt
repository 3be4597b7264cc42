-- each call so far has made at most 2^32 - 1 corrections
use Rattle.std.proofs.Common.{◌≤◌, ◌*◌}
use Rattle.jobs_main.proofs.split.small_calls.Given as goal

abbrev pub invariant-loop-budget : goal.invariant-loop-budget
invariant-loop-budget l = l.made ≤ 4294967295 * l.budget
