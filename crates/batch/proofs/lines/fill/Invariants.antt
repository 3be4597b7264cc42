-- `lines::fill` meets its contract. The loop's invariant: the lines that are counted stand in the buffer, and the report is as far as they
-- go. The measure is the rest of the buffer, since no line is empty. Assumes nothing.
use Prim.Native.Nat.{◌-◌}
use lib.ListN.{length}
use Rattle.batch.proofs.FillLaws.{Lined}
use Rattle.batch.proofs.lines.fill.Given as goal

abbrev pub invariant-loop-out : goal.invariant-loop-out
invariant-loop-out l = Lined l.input l.initial.next l.initial.out l.out l.count l.length l.next

abbrev pub decreases-loop-out : goal.decreases-loop-out
decreases-loop-out l = length l.initial.out - l.length
