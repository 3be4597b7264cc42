-- `sums::vector_of` meets its contract. The loop's invariant: the weights below `place` are those of a vector that has the sums.
-- Assumes nothing.
use mathlib.Core.Path.{◌≡◌}
use mathlib.Core.List.{List}
use Prim.Native.Nat.{ℕ}
use lib.ListN.{get_or, replicate}
use lib.IntN.{ℤ, pos}
use Rattle.numbers.proofs.TabulateLaws.{filled}
use Rattle.types.specs.declared.vector.Vector.{Vector}
use Rattle.lanes.specs.Sums.{vector_sums}
use Rattle.lanes.proofs.sums.vector_of.Given as goal

-- the weight at a place
abbrev pub weight : Vector → ℕ → ℤ
weight v place = get_or v.a place (pos 0)

-- the array before the loop
abbrev pub zeros : List ℤ
zeros = replicate 8 (pos 0)

abbrev pub invariant-loop-place : goal.invariant-loop-place
invariant-loop-place l = (v : Vector) → l.sums ≡ vector_sums v → l.weight-items ≡ filled (weight v) zeros l.place
