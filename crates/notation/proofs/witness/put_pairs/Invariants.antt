-- `witness::put_pairs` meets its contract. The loop's invariant: the pairs of the rows below `row` are written, and `here` is the position
-- behind them. Assumes nothing.
use Rattle.codec.specs.Written.{Put}
use Rattle.notation.specs.WitnessText.{pairs_text}
use Rattle.notation.proofs.witness.put_pairs.Given as goal

abbrev pub invariant-loop-row : goal.invariant-loop-row
invariant-loop-row l = Put l.initial.out l.at (pairs_text l.fn.counts l.row 0) l.out l.here
