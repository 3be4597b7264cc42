-- `write::rows_length` meets its contract. The loop's invariant: to the bytes of the list's length those of the pairs of the rows below `row`
-- are added. Assumes nothing.
use mathlib.Core.Path.{◌≡◌}
use Prim.Native.Nat.{◌+◌}
use lib.ListN.{length}
use Rattle.rowlists.proofs.RowParts.{pairs}
use Rattle.rowlists.proofs.write.rows_length.Given as goal

abbrev pub invariant-loop-row : goal.invariant-loop-row
invariant-loop-row l = l.length ≡ l.initial.length + length (pairs l.counts l.row)
