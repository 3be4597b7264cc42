-- `gate::in_range` meets its contract. The loop's invariant: each weight below `place` is within its limit. Assumes nothing.
use mathlib.Core.Path.{◌≡◌}
use mathlib.Core.Bool.{Bool, true}
use mathlib.Core.List.{List}
use Prim.Native.Nat.{ℕ}
use lib.ListN.{get_or}
use lib.IntN.{ℤ, pos}
use Rattle.numbers.specs.Tests.{all_below}
use Rattle.table.specs.Gate.{within, place_limit}
use Rattle.gates.proofs.gate.in_range.Given as goal

-- whether the weight at a place is within its limit
abbrev pub fits : (limit n : ℕ) → List ℤ → ℕ → Bool
fits limit n ws place = within (place_limit limit n place) (get_or ws place (pos 0))

abbrev pub invariant-loop-place : goal.invariant-loop-place
invariant-loop-place l = all_below l.place (fits l.limit l.n l.fn.weights) ≡ true
