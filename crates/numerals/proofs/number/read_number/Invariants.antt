-- `crate::number::read_number` meets its contract. The loop's invariant: the groups ahead, at the scale that is reached, complete the
-- value so far to the number. Assumes nothing.
use Rattle.numerals.proofs.GroupLaws.{Ahead}
use Rattle.numerals.proofs.number.read_number.Given as goal

abbrev pub invariant-loop-scale : goal.invariant-loop-scale
invariant-loop-scale l = Ahead l.bytes l.at l.next l.scale-index l.value
