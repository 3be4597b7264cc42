-- A row list: its length, then pairs (row, count), rows rising, counts at least 1 (document 01, "Records"). Definitions only.
-- Assumes nothing.
use Rattle.types.specs.declared.refusal.Refusal.TheVariants as Refusal'
use Rattle.std.specs.Prelude.{Bool, true, false, not, ◌&&◌, ◌||◌, List, [], ◌∷◌, ◌++◌, ℕ, zero, suc, ◌+◌, ltb, leb, set, Ok}
pub use Rattle.types.specs.declared.rows.RowList.{RowList}
pub use Rattle.types.specs.declared.rows.Pair.{Pair}
use Rattle.table.specs.Witness.{count_limit}
use Rattle.function.specs.Witness.{only_if, count_of, zeros}
use Rattle.refusal.specs.Refusal.{Rule, rule, checked}
use Rattle.codec.specs.Field.{Reading, field, onward}
use Rattle.codec.specs.Number.{number_bytes, number_at}

-- ---- written

-- the pair of a row; nothing where its count is 0
abbrev pub pair_bytes : ℕ → ℕ → List ℕ
pair_bytes row zero = []
pair_bytes row (suc count) = number_bytes row ++ number_bytes (suc count)

-- the pairs of so many rows from a row on
unfoldable pub pairs_from : List ℕ → ℕ → ℕ → List ℕ
pairs_from counts zero row = []
pairs_from counts (suc left) row = pair_bytes row (count_of counts row) ++ pairs_from counts left (suc row)

-- how many of so many rows from a row on have a count above 0
unfoldable pub filled_from : List ℕ → ℕ → ℕ → ℕ
filled_from counts zero row = 0
filled_from counts (suc left) row = only_if (ltb 0 (count_of counts row)) 1 + filled_from counts left (suc row)

-- the counts above 0 of an array of 256
unfoldable pub row_list_bytes : List ℕ → List ℕ
unfolding pairs_from filled_from
row_list_bytes counts = number_bytes (filled_from counts 256 0) ++ pairs_from counts 256 0

-- ---- read

-- 8, where ranges are refused at once (kind 3); a list of kind 4 or 6 goes on, and its job is not sound
abbrev pub out_of_range : Bool → Bool → Rule
out_of_range strict fits = rule Refusal'.RowList (strict && not fits)

-- at most so many pairs as rows; not empty in kind 3
abbrev pub length_fits : Bool → ℕ → ℕ → Bool
length_fits strict rows pairs = leb pairs rows && (not strict || ltb 0 pairs)

-- a row of the table, not below the lowest that may come now
abbrev pub row_fits : (rows lowest row : ℕ) → Bool
row_fits rows lowest row = leb lowest row && ltb row rows

abbrev pub count_fits : ℕ → Bool
count_fits count = ltb 0 count && leb count count_limit

unfoldable pub pair_at : Bool → (rows lowest : ℕ) → List ℕ → ℕ → Reading Pair
pair_at strict rows lowest s at =
    onward (number_at s at) (λ row middle. checked (out_of_range strict (row_fits rows lowest row) ∷ [])
    (onward (number_at s middle) (λ count next. checked (out_of_range strict (count_fits count) ∷ [])
    (Ok (field (record { row = row; count = count; fits = row_fits rows lowest row && count_fits count }) next)))))

-- the lowest row that may come after a pair: rows rise
abbrev pub lowest_after : Bool → ℕ → ℕ → ℕ
lowest_after true lowest row = suc row
lowest_after false lowest row = lowest

-- a pair in its ranges is stored; another is not, and the list has not kept its ranges
abbrev pub stored_if : Bool → (row count : ℕ) → RowList → RowList
stored_if true row count list = record { counts = set list.counts row count; kept = list.kept }
stored_if false row count list = record { counts = list.counts; kept = false }

-- so many pairs
unfoldable pub pairs_at : Bool → (rows left lowest : ℕ) → RowList → List ℕ → ℕ → Reading RowList
pairs_at strict rows zero lowest list s at = Ok (field list at)
pairs_at strict rows (suc left) lowest list s at =
    onward (pair_at strict rows lowest s at) (λ pair next.
    pairs_at strict rows left (lowest_after pair.fits lowest pair.row) (stored_if pair.fits pair.row pair.count list) s next)

unfoldable pub row_list_at : Bool → ℕ → List ℕ → ℕ → Reading RowList
unfolding pairs_at
row_list_at strict rows s at =
    onward (number_at s at) (λ pairs next. checked (out_of_range strict (length_fits strict rows pairs) ∷ [])
    (pairs_at strict rows pairs 0 (record { counts = zeros; kept = length_fits strict rows pairs }) s next))
