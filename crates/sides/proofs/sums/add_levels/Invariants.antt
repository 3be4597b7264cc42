-- `sums::add_levels` meets its contract. The loop's invariant: the sums below `input` have what the row adds, and the others are as they came.
-- Assumes nothing.
use mathlib.Core.Path.{◌≡◌}
use mathlib.Core.List.{List}
use Prim.Native.Nat.{ℕ, ◌+◌, ◌*◌}
use lib.ListN.{get_or}
use Rattle.numbers.proofs.TabulateLaws.{filled}
use Rattle.function.specs.Witness.{input_level}
use Rattle.function.specs.Function.{level}
use Rattle.sides.proofs.sums.add_levels.Given as goal

-- a sum with what the row adds
abbrev pub sum_with : List ℕ → ℕ → ℕ → ℕ → ℕ
sum_with sums row count i = get_or sums i 0 + count * input_level (level 2 row) i

abbrev pub invariant-loop-input : goal.invariant-loop-input
invariant-loop-input l = l.sums ≡ filled (sum_with l.initial.sums l.row l.count) l.initial.sums l.input
