-- `gate::size_of` meets its contract. The loop's invariant: `sum` is the sum of the weights that were passed, each at most 2^31 in size, so
-- that no step wraps. Assumes nothing.
use mathlib.Core.Path.{◌≡◌}
use mathlib.Core.List.{List}
use Prim.Native.Nat.{ℕ, ◌+◌, ◌*◌, ◌^◌, ◌≤◌}
use lib.ListN.{take}
use lib.IntN.{ℤ}
use Rattle.numbers.specs.Sum.{weighted_sum}
use Rattle.numbers.proofs.Int.{up, dn}
use Rattle.notation.proofs.gate.size_of.Given as goal

-- z is the sum over the places below `place`, of a size that grows by 2^31 with each
abbrev pub SumTo : List ℤ → ℕ → ℤ → Type 0
SumTo a place z = (z ≡ weighted_sum (take place a) (λ place. 1)) × (up z + dn z ≤ place * 2 ^ 31)

abbrev pub invariant-loop-weight : goal.invariant-loop-weight
invariant-loop-weight l = SumTo l.fn.gate.weights l.weight-index l.sum
