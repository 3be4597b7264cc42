-- `start::some_cared` meets its contract: at the vector 0 a row fails exactly if it is cared for. The loop's invariant: no row below `row` is
-- cared for. Assumes nothing.
use Rattle.std.specs.Prelude.{◌≡◌, ℕ, ◌<◌, false}
use Rattle.table.specs.Table.{cared}
use Rattle.stepping.proofs.start.some_cared.Given as goal

abbrev pub invariant-loop-row : goal.invariant-loop-row
invariant-loop-row l = (r : ℕ) → r < l.row → cared l.table r ≡ false
