-- `size::is_small` meets its contract. The loop's invariant: `sum` is the size of b and of the weights that were passed. Assumes nothing.
use mathlib.Core.Path.{◌≡◌}
use Prim.Native.Nat.{◌+◌}
use lib.IntN.{nat_abs}
use Rattle.numbers.specs.Sum.{sum_below}
use Rattle.lanes.proofs.SumsLaws.{size_at}
use Rattle.lanes.proofs.size.is_small.Given as goal

abbrev pub invariant-loop-weight : goal.invariant-loop-weight
invariant-loop-weight l = l.sum ≡ nat_abs l.fn.v.b + sum_below l.weight-index (size_at l.fn.v.a)
