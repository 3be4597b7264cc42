use Rattle.std.proofs.Common.{◌≤◌}
use Rattle.counts_main.proofs.fitting.compare.Given as goal

abbrev pub invariant-loop-number : goal.invariant-loop-number
invariant-loop-number l = (l.fit ≤ l.number) × (l.alike ≤ l.number)
