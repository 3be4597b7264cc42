-- `gate::put_weights` meets its contract. The loop's invariant: the weights that were passed are written, and `here` is the position behind
-- them. Assumes nothing.
use Rattle.codec.specs.Written.{Put}
use Rattle.notation.specs.GateText.{weights_text}
use Rattle.notation.proofs.gate.put_weights.Given as goal

abbrev pub invariant-loop-weight : goal.invariant-loop-weight
invariant-loop-weight l = Put l.initial.out l.at (weights_text l.fn.weights l.weight-index 0) l.out l.here
