-- The rows as the fast form of the search takes them: in blocks of 32. A table of fewer than five inputs fills its block by repeating its
-- rows. For the inside of the machine alone. Definitions only. Assumes nothing.
use Rattle.std.specs.Prelude.{Bool, ℕ, ◌*◌, ◌-◌, ◌%◌, ◌^◌}
use Rattle.types.specs.declared.table.Table.{Table}
use Rattle.table.specs.Table.{rows, value, cared}

-- the blocks of n inputs
abbrev pub blocks_of : ℕ → ℕ
blocks_of n = 2 ^ (n - 5)

-- the rows of those blocks
abbrev pub lane_rows : ℕ → ℕ
lane_rows n = 32 * blocks_of n

-- the value of a row of the blocks: a row past the table has that of the row that it repeats
unfoldable pub lane_value : Table → ℕ → Bool
lane_value t r = value t (r % rows t)

-- whether such a row is cared for
unfoldable pub lane_cared : Table → ℕ → Bool
lane_cared t r = cared t (r % rows t)
