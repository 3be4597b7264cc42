use Rattle.std.proofs.Common.{◌≤◌, ◌*◌, ℕ, slice_index}
use Rattle.counts_main.proofs.sweep.tally_of.Given as goal

abbrev pub invariant-loop-number : goal.invariant-loop-number
invariant-loop-number l = (l.accepted ≤ l.number) × ((i : ℕ) → slice_index l.jobs i ≤ l.number) × ((i : ℕ) → slice_index l.corrections i ≤ 4294967296 * l.number)
