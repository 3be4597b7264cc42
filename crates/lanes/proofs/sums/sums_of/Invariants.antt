-- `sums::sums_of`. The loop's invariant: the list has the sums of the inputs below `place`. Assumes nothing.
use Rattle.lanes.proofs.DoublingLaws.{SumsTo}
use Rattle.lanes.proofs.sums.sums_of.Given as goal

abbrev pub invariant-loop-place : goal.invariant-loop-place
invariant-loop-place l = SumsTo l.fn.v.a l.fn.v.b l.place l.sums
