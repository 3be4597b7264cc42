-- How a correction by a row of a table widens the range of a vector. Assumes nothing.
use mathlib.Core.Path.{◌≡◌}
use mathlib.Core.Bool.{Bool}
use Prim.Native.Nat.{ℕ, ◌+◌, ◌^◌, ◌<◌}
use native.Mathlib.Omega.{arith}
use lib.ListN.{length}
use Rattle.types.specs.declared.vector.Vector.{Vector}
use Rattle.function.specs.Function.{level}
use Rattle.function.specs.Vector.{corrected_by}
use Rattle.table.proofs.TableLaws.{level_lt, level_past}
use Rattle.function.proofs.RangeLaws.{InRange, corrected_in_range}

-- a correction by a row of n inputs widens it by 1
pub row_in_range : (limit n : ℕ) (y : Bool) (r : ℕ) (v : Vector) → r < 2 ^ n → length v.a ≡ 8 → InRange limit n v.a v.b
    → InRange (limit + 1) n (corrected_by y (level 2 r) v).a (corrected_by y (level 2 r) v).b
row_in_range limit n y r v h =
    corrected_in_range limit 1 n y (level 2 r) v (omega arith) (λ place. omega (arith, level_lt r place)) (λ place k. level_past r place h k)
