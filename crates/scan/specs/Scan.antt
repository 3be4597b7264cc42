-- The lists in which the search for the lowest failing row works: the care bits and the values of the rows, and the distances of the rows so
-- far, of which an input makes twice as many; and the bits of rows as a list, for a search by blocks. For the inside of the machine alone. Definitions only. Assumes nothing.
use Rattle.std.specs.Prelude.{Bool, cond, ◌&&◌, List, ℕ, ◌-◌, ltb, get_or, ℤ, pos, ◌+ℤ◌}
use Rattle.std.specs.Int.Signed.{lt_z}
use Rattle.numbers.specs.Tabulate.{tabulate}
use Rattle.table.specs.Table.{bit_at}
use Rattle.function.specs.Function.{level}
use Rattle.function.specs.Gate.{distance}
use Rattle.function.specs.Failing.{margin}

-- row r's bit, and false past the rows of the table
abbrev pub in_table : (rows : ℕ) → List ℕ → ℕ → Bool
in_table rows bytes r = ltb r rows && bit_at bytes r

-- the bits of the rows below m; the others are false
abbrev pub values_below : ℕ → List ℕ → List Bool
values_below m bytes = tabulate 256 (in_table m bytes)

-- the distance of a table's row
abbrev pub row_distance : List ℤ → ℤ → ℕ → ℤ
row_distance ws th r = distance ws th (level 2 r)

-- row r fails, by the care bits and the values that bytes have and by its distance
unfoldable pub fails_at : List ℕ → List ℕ → (ℕ → ℤ) → ℕ → Bool
fails_at cares values distance r = bit_at cares r && lt_z (margin (bit_at values r) (distance r)) (pos 1)

-- the distances of twice `half` rows: below `half` those that a list holds, and from there on that of the row `half` below and the weight
unfoldable pub doubled : (half : ℕ) → ℤ → List ℤ → ℕ → ℤ
doubled half weight distances r = cond (ltb r half) (get_or distances r (pos 0)) (get_or distances (r - half) (pos 0) +ℤ weight)
