-- `search::least_key` meets its contract. The loop's invariant: `least` is the least key of the rows below `row`. Assumes nothing.
use mathlib.Core.Path.{◌≡◌}
use Rattle.search.specs.Keys.{least_below, block_key}
use Rattle.search.proofs.search.least_key.Given as goal

abbrev pub invariant-loop-row : goal.invariant-loop-row
invariant-loop-row l = l.least ≡ least_below l.row (block_key l.sums l.high l.ones l.keys)
