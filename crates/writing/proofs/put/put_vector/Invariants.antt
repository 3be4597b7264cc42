-- `put::put_vector` meets its contract. The loop's invariant: the weights so far are written, and `here` is the position behind them.
-- Assumes nothing.
use Rattle.codec.specs.Written.{Put}
use Rattle.codec.proofs.WeightLaws.{weights}
use Rattle.writing.proofs.put.put_vector.Given as goal

abbrev pub invariant-loop-weight : goal.invariant-loop-weight
invariant-loop-weight l = Put l.initial.out l.at (weights l.v.a l.weight-index) l.out l.here
