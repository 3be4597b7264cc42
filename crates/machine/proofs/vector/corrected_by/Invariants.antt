-- `crate::vector::corrected_by`. The loop's invariant: the weights below `place` are those of the corrected vector, and the others are
-- as they came. Assumes nothing.
use Rattle.std.proofs.Common.{◌≡◌, ℕ, Bool, get_or, ℤ, pos}
use Rattle.numbers.proofs.TabulateLaws.{filled}
use Rattle.function.specs.Function.{level}
use Rattle.types.specs.declared.vector.Vector.{Vector}
use Rattle.function.specs.Vector.{corrected_by}
use Rattle.machine.proofs.vector.corrected_by.Given as goal

-- the weight at a place of the corrected vector
abbrev pub weight : Bool → ℕ → Vector → ℕ → ℤ
weight value row v place = get_or (corrected_by value (level 2 row) v).a place (pos 0)

abbrev pub invariant-loop-place : goal.invariant-loop-place
invariant-loop-place l = l.weight-items ≡ filled (weight l.value l.row l.fn.v) l.fn.v.a l.place
