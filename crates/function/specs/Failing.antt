-- Which rows fail by a vector (document 01, "The stepping machine"). Definitions only. Assumes nothing.
use Rattle.std.specs.Prelude.{Bool, true, false, ◌&&◌, ℕ, ℤ, pos, neg_ℤ}
use Rattle.std.specs.Prelude.{Option}
use Rattle.std.specs.Int.Signed.{lt_z}
use Rattle.numbers.specs.Tests.{first_from}
use Rattle.types.specs.declared.vector.Vector.{Vector}
use Rattle.function.specs.Function.{Function, levels, rows}
use Rattle.function.specs.Gate.{distance}

-- the margin of a row, by its value and its distance d: d signed so that it is positive on the right side
abbrev pub margin : Bool → ℤ → ℤ
margin true d = d
margin false d = neg_ℤ d

-- row r fails: d below 1 on a true row, above −1 on a false row. A row that is not cared for does not
unfoldable pub fails : Function → Vector → ℕ → Bool
fails f v r = f.cared r && lt_z (margin (f.value r) (distance v.a v.b (levels f r))) (pos 1)

-- the lowest-numbered failing row
unfoldable pub failing : Function → Vector → Option ℕ
failing f v = first_from (fails f v) (rows f) 0
