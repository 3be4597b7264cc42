-- A truth table: its rows, its value on a row and whether it is cared for, its function, and the bits that must be 0 (document 01, "Table,
-- gate, witness"; document 02, §3). Definitions only. Assumes nothing.
use Rattle.std.specs.Prelude.{Bool, true, not, ◌&&◌, ◌||◌, List, ◌++◌, ℕ, ◌+◌, ◌*◌, ◌-◌, ◌/◌, ◌%◌, ◌^◌, ltb, length, get_or, drop, replicate}
use Rattle.numbers.specs.Packed.{bit_in, packed}
use Rattle.numbers.specs.Tabulate.{tabulate}
use Rattle.numbers.specs.Tests.{all_at_most, all_below}
use Rattle.types.specs.declared.table.Table.{Table}
use Rattle.function.specs.Function.{Function}

-- the most inputs of a table
abbrev pub input_limit : ℕ
input_limit = 8

-- the number of rows of n inputs
abbrev pub rows_of : ℕ → ℕ
rows_of n = 2 ^ n

abbrev pub rows : Table → ℕ
rows t = rows_of t.n

-- row r's bit: bit r mod 8 of byte r div 8, lowest bit first
unfoldable pub bit_at : List ℕ → ℕ → Bool
bit_at bytes r = bit_in (get_or bytes (r / 8) 0) (r % 8)

-- the table's value on row r
abbrev pub value : Table → ℕ → Bool
value t r = bit_at t.bytes r

-- row r is cared for: it can arise, and a gate must agree on it (document 02, §3; the field's term for these rows: the care set)
abbrev pub cared : Table → ℕ → Bool
cared t r = bit_at t.cares r

-- the function of a table: inputs are false or true, which are levels 0 and 1
abbrev pub function_of : Table → Function
function_of t = record { places = t.n; top = 1; value = value t; cared = cared t }

-- how many bytes the bits of so many rows take, and the bytes of a table of n inputs
abbrev pub bit_bytes : ℕ → ℕ
bit_bytes rows = (rows + 7) / 8

abbrev pub byte_count : ℕ → ℕ
byte_count n = bit_bytes (rows_of n)

-- an array of m places: those that are not given hold x
abbrev pub padded : {A : Type 0} → ℕ → A → List A → List A
padded m x xs = xs ++ replicate (m - length xs) x

-- byte k of so many rows: row 8k + j is its bit j, and rows past them are false
abbrev pub row_byte : ℕ → (ℕ → Bool) → ℕ → ℕ
row_byte rows f k = packed 8 (λ j. ltb (8 * k + j) rows && f (8 * k + j))

-- the bits of the rows of n inputs that f passes
unfoldable pub row_bytes : ℕ → (ℕ → Bool) → List ℕ
row_bytes n f = tabulate 32 (row_byte (rows_of n) f)

-- the care bits of a table of n inputs with every row cared for: exactly those of its rows
abbrev pub every_row : ℕ → List ℕ
every_row n = row_bytes n (λ r. true)

-- the table of n inputs with these value bits, and every row cared for
abbrev pub whole_table : ℕ → List ℕ → Table
whole_table n bits = record { n = n; bytes = bits; cares = every_row n }

-- every row of a table is cared for
unfoldable pub is_whole : Table → Bool
unfolding all_below
is_whole t = all_below (rows t) (cared t)

-- refusal 16 of a table alone: a row that is not cared for has a value bit
unfoldable pub stray_value : Table → Bool
unfolding all_below
stray_value t = not (all_below (rows t) (λ r. not (value t r) || cared t r))

-- refusal 3: a spare bit of the first byte is set (three inputs and more have none), or a byte past the table's length is not 0
unfoldable pub spare_set : ℕ → List ℕ → Bool
unfolding all_at_most
spare_set n bytes = not (ltb (get_or bytes 0 0) (2 ^ rows_of n)) || not (all_at_most 0 (drop (byte_count n) bytes))
