-- `crate::vector::read_vector` meets its contract. The loop's invariant: the weights ahead, put into the array so far, are the vector's.
-- Assumes nothing.
use Rattle.numerals.proofs.PlaceLaws.{Weights}
use Rattle.numerals.proofs.vector.read_vector.Given as goal

abbrev pub invariant-loop-place : goal.invariant-loop-place
invariant-loop-place l = Weights l.strict l.n l.bytes l.at l.a l.here l.place
