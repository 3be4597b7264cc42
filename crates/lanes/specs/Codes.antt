-- Numbers that stand for rows in the fast form of a step: the code of a row has its value, so that the sign of its correction needs no look
-- at the table. For the inside of the machine alone. Definitions only. Assumes nothing.
use Rattle.std.specs.Prelude.{Bool, cond, ℕ, ◌+◌, ◌*◌}
use Rattle.std.specs.Prelude.{Option, Some, None}
use Rattle.types.specs.declared.table.Table.{Table}
use Rattle.table.specs.Table.{value}

-- the code of a row: twice its number, and 1 if it is true
abbrev pub row_code : Bool → ℕ → ℕ
row_code y r = 2 * r + cond y 1 0

-- what a search gives: the code of the row found, if one is
abbrev pub found_code : Table → Option ℕ → Option ℕ
found_code t None = None
found_code t (Some r) = Some (row_code (value t r) r)
