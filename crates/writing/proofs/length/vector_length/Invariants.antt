-- `length::vector_length` meets its contract. The loop's invariant: the weights so far take so many bytes. Assumes nothing.
use mathlib.Core.Path.{◌≡◌}
use lib.ListN.{length}
use Rattle.codec.proofs.WeightLaws.{weights}
use Rattle.writing.proofs.length.vector_length.Given as goal

abbrev pub invariant-loop-weight : goal.invariant-loop-weight
invariant-loop-weight l = l.length ≡ length (weights l.v.a l.weight-index)
