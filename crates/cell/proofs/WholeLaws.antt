-- Laws of tables with every row cared for, as callers make them. Assumes nothing.
use mathlib.Core.Path.{◌≡◌}
use mathlib.Core.List.{List}
use Prim.Native.Nat.{ℕ, ◌≤◌}
use borrow.Author.Tests.{le-ltb}
use Rattle.table.specs.Table.{input_limit, whole_table}
use Rattle.cell.specs.Whole.{as_whole}

-- up to eight inputs it is the table with every row cared for
pub as_whole_lem : (n : ℕ) (bits : List ℕ) → n ≤ 8 → as_whole n bits ≡ whole_table n bits
as_whole_lem n bits h = simp (le-ltb input_limit n h)
