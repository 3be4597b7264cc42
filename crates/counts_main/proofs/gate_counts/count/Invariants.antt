use Rattle.std.proofs.Common.{◌≤◌}
use Rattle.counts_main.proofs.gate_counts.count.Given as goal

abbrev pub invariant-loop-rows : goal.invariant-loop-rows
invariant-loop-rows l = l.count ≤ l.rows
