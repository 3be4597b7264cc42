-- The rows in which an input turns the value (document 01, "Kinds, Chow, report" and "The stepping machine"). Definitions only.
-- Assumes nothing.
use Rattle.std.specs.Prelude.{Bool, not, ◌&&◌, ℕ, ltb}
use Rattle.std.specs.Prelude.{Option}
use Rattle.numbers.specs.Tests.{same_bool, first_from}
use Rattle.function.specs.Function.{Function, levels, rows, raised}

-- row r has the place's input below its top level (a table's row lacks it), it and the row with the input one level higher are both cared for,
-- and that raise turns the value to `to`
unfoldable pub turns_at : Function → Bool → ℕ → ℕ → Bool
turns_at f to place r =
    f.cared r
    && (f.cared (raised f place r)
    && (ltb (levels f r place) f.top && same_bool (f.value r) (not to) && same_bool (f.value (raised f place r)) to))

-- the lowest row in which the place's input turns the value to `to`
unfoldable pub first_turn : Function → Bool → ℕ → Option ℕ
unfolding first_from turns_at
first_turn f to place = first_from (turns_at f to place) (rows f) 0
