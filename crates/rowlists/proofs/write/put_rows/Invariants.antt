-- `write::put_rows` meets its contract. The loop's invariant: behind the list's length the pairs of the rows below `row` are written, and `here`
-- is the position behind them. Assumes nothing.
use Rattle.codec.specs.Written.{Put}
use Rattle.rowlists.proofs.RowParts.{pairs}
use Rattle.rowlists.proofs.write.put_rows.Given as goal

abbrev pub invariant-loop-row : goal.invariant-loop-row
invariant-loop-row l = Put l.initial.out l.initial.here (pairs l.counts l.row) l.out l.here
