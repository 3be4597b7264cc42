-- `sums::double` meets its contract. The loop's invariant: the first `at` sums are doubled. Assumes nothing.
use Rattle.lanes.specs.Sums.{Doubled}
use Rattle.lanes.proofs.sums.double.Given as goal

abbrev pub invariant-loop-at : goal.invariant-loop-at
invariant-loop-at l = Doubled l.from l.half l.at l.weight l.initial.sums l.sums
