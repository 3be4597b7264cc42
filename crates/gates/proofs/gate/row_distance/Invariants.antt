-- `gate::row_distance` meets its contract. The loop's invariant: `sum` is the weighted sum over the places below `place`, at most
-- `place` * 2^31 in size, so that no step wraps. Assumes nothing.
use mathlib.Core.Path.{◌≡◌}
use mathlib.Core.List.{List}
use Prim.Native.Nat.{ℕ, ◌+◌, ◌*◌, ◌^◌, ◌≤◌}
use lib.ListN.{take}
use lib.IntN.{ℤ}
use Rattle.numbers.specs.Sum.{weighted_sum}
use Rattle.numbers.proofs.Int.{up, dn}
use Rattle.function.specs.Function.{level}
use Rattle.gates.proofs.gate.row_distance.Given as goal

-- z is the sum over the places below `place`, of a size that grows by 2^31 with each
abbrev pub SumTo : List ℤ → ℕ → ℕ → ℤ → Type 0
SumTo weights row place z = (z ≡ weighted_sum (take place weights) (level 2 row)) × (up z + dn z ≤ place * 2 ^ 31)

abbrev pub invariant-loop-place : goal.invariant-loop-place
invariant-loop-place l = SumTo l.fn.weights l.row l.place l.sum
