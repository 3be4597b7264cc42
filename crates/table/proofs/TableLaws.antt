-- Laws of tables: how many rows and bytes there are, the levels of a row's inputs, and the bits that must be 0. Assumes nothing.
use mathlib.Core.Path.{◌≡◌}
use mathlib.Core.Bool.{true, not}
use mathlib.Core.List.{List}
use Prim.Native.Nat.{ℕ, ◌+◌, ◌^◌, ◌≤◌, ◌<◌}
use native.Mathlib.Nat.{lt_of_lt_of_le}
use native.Mathlib.Omega.{arith}
use lib.ListN.{drop, get_or}
use lib.Pow.{pow_mono}
use borrow.Author.Tests.{lt-ltb, le-ltb}
use Rattle.numbers.specs.Tests.{all_at_most}
use Rattle.table.specs.Table.{rows_of, byte_count, spare_set, function_of}
use Rattle.types.specs.declared.table.Table.{Table}
use Rattle.function.specs.Function.{level, Fits}
use Rattle.function.proofs.FunctionLaws.{unit, level_below, level_none, raised_below, raised_level}

-- eight inputs and fewer have at most 256 rows
pub rows_le : {n : ℕ} → n ≤ 8 → 2 ^ n ≤ 256
rows_le h = pow_mono h

-- eight inputs and fewer have at most 32 bytes
pub bytes_le : {n : ℕ} → n ≤ 8 → byte_count n ≤ 32
bytes_le h = omega (arith, rows_le h)

-- a level is 0 or 1
pub level_lt : (r place : ℕ) → level 2 r place < 2
level_lt r place = level_below 1 r place

-- an input past those of a row has level 0
pub level_past : {n : ℕ} (r place : ℕ) → r < 2 ^ n → n ≤ place → level 2 r place ≡ 0
level_past r place h k = level_none 1 r place h k

-- a row that lacks an input has a partner among the rows, which has it
pub partner_below : (n r place : ℕ) → place < n → level 2 r place ≡ 0 → r < 2 ^ n → r + 2 ^ place < 2 ^ n
partner_below n r place k e h = raised_below 1 n r place k (omega arith) h

-- it has the same levels, and that input besides
pub partner_level : (place other r : ℕ) → level 2 r place ≡ 0 → level 2 (r + 2 ^ place) other ≡ level 2 r other + unit place other
partner_level place other r e = raised_level 1 place other r (omega arith)

-- the function of a table of at most eight inputs fits the code's arrays
pub table_fits : (t : Table) → t.n ≤ 8 → Fits (function_of t)
table_fits t h = record { leveled = omega arith; places = h; rows = rows_le h }

-- the rows of three inputs and more fill a byte
pub byte_filled : {n b : ℕ} → 3 ≤ n → b < 256 → b < 2 ^ rows_of n
byte_filled h k = lt_of_lt_of_le k (pow_mono (pow_mono h))

-- a first byte with a bit that is no row's is spare
pub spare_first : (n : ℕ) (bytes : List ℕ) → 2 ^ rows_of n ≤ get_or bytes 0 0 → spare_set n bytes ≡ true
unfolding spare_set
spare_first n bytes h = rw (le-ltb (get_or bytes 0 0) (2 ^ rows_of n) h)

-- where it has none, the bytes past the table decide
pub spare_rest : (n : ℕ) (bytes : List ℕ) → get_or bytes 0 0 < 2 ^ rows_of n → spare_set n bytes ≡ not (all_at_most 0 (drop (byte_count n) bytes))
unfolding spare_set
spare_rest n bytes h = rw (lt-ltb (get_or bytes 0 0) (2 ^ rows_of n) h)
