use Rattle.std.proofs.Common.{◌≤◌, ◌*◌, ◌^◌, ◌-◌, length}
use Rattle.jobs_main.proofs.run.Given as goal

abbrev pub invariant-loop-at : goal.invariant-loop-at
invariant-loop-at g l = (l.gates ≤ l.at) × (l.witnesses ≤ l.at) × (l.given_up ≤ l.at) × (l.gates_k ≤ 2 ^ 32 * l.at)

abbrev pub decreases-loop-at : goal.decreases-loop-at
decreases-loop-at g l = length l.lines - l.at
