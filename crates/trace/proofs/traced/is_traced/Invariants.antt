-- The loop's invariant: v is s with what the sums add and take away at each input below `input`. Assumes nothing.
use Rattle.std.specs.Prelude.{◌≡◌, ℕ, Bool, true, List, get_or, pos, ◌+ℤ◌}
use Rattle.numbers.specs.Tests.{all_below, same_z}
use Rattle.types.specs.declared.vector.Vector.{Vector}
use Rattle.function.specs.Vector.{component}
use Rattle.trace.proofs.traced.is_traced.Given as goal

-- whether v is s with what is added and taken away at an input
abbrev pub traced_by : Vector → Vector → (ℕ → ℕ) → (ℕ → ℕ) → ℕ → Bool
traced_by v s added taken i = same_z (component v i +ℤ pos (taken i)) (component s i +ℤ pos (added i))

-- the sum of an input in an array of sums
abbrev pub sum_in : List ℕ → ℕ → ℕ
sum_in sums i = get_or sums i 0

abbrev pub invariant-loop-input : goal.invariant-loop-input
invariant-loop-input l = all_below l.input (traced_by l.core.v l.core.s (sum_in l.added) (sum_in l.taken)) ≡ true
