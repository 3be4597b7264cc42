-- A table in a record: n as a number, then its values and, where a row is not cared for, its care bits, each a field by their number of rows
-- (document 01, "Records"; document 02, §3). Definitions only. Assumes nothing.
use Rattle.types.specs.declared.refusal.Refusal.TheVariants as Refusal'
use Rattle.std.specs.Prelude.{Bool, true, false, cond, List, [], ◌∷◌, ◌++◌, ℕ, ◌+◌, take, drop, Ok}
use Rattle.types.specs.declared.table.Table.{Table}
use Rattle.table.specs.Table.{rows_of, rows, bit_bytes, padded, spare_set, whole_table, is_whole}
use Rattle.refusal.specs.Refusal.{Rule, rule, checked}
use Rattle.refusal.specs.TableRules.{too_many_inputs, stray_values}
use Rattle.codec.specs.Field.{Reading, field, onward, ends_early}
use Rattle.codec.specs.Number.{number_bytes, number_at}
use Rattle.codec.specs.Kind.{Head, tables_alone, record_with}

-- ---- written

-- the care bits of the rows, where one is not cared for
abbrev pub care_bytes : Table → List ℕ
care_bytes t = cond (is_whole t) [] (take (bit_bytes (rows t)) t.cares)

-- n, then the values of its rows, then their care bits
unfoldable pub table_bytes : Table → List ℕ
table_bytes t = number_bytes t.n ++ (take (bit_bytes (rows t)) t.bytes ++ care_bytes t)

-- ---- read

-- n. 1 and 4, then 2
abbrev pub inputs_at : List ℕ → ℕ → Reading ℕ
inputs_at s at = onward (number_at s at) (λ n next. checked (too_many_inputs n ∷ []) (Ok (field n next)))

-- the bits of so many rows, as an array of 32 bytes holds them. 1: their bytes end early
abbrev pub bits_at : ℕ → List ℕ → ℕ → Reading (List ℕ)
bits_at rows s at = checked (ends_early s at (bit_bytes rows) ∷ []) (Ok (field (padded 32 0 (take (bit_bytes rows) (drop at s))) (at + bit_bytes rows)))

-- the bits of the rows of n inputs, values or care bits. 1; then 3: a spare bit is set
unfoldable pub row_bits_at : ℕ → List ℕ → ℕ → Reading (List ℕ)
row_bits_at n s at = onward (bits_at (rows_of n) s at) (λ bits next. checked (rule Refusal'.SpareBit (spare_set n bits) ∷ []) (Ok (field bits next)))

abbrev pub table_of : ℕ → List ℕ → List ℕ → Table
table_of n bits cares = record { n = n; bytes = bits; cares = cares }

-- 16: a value bit on a row that is not cared for, or every row cared for
abbrev pub partial_rules : Table → List Rule
partial_rules t = stray_values t ∷ rule Refusal'.Care (is_whole t) ∷ []

-- what follows the values: care bits, and 16 straight after them; where there are none, every row is cared for
unfoldable pub cares_at : Bool → ℕ → List ℕ → List ℕ → ℕ → Reading Table
cares_at false n bits s at = Ok (field (whole_table n bits) at)
cares_at true n bits s at =
    onward (row_bits_at n s at) (λ cares next. checked (partial_rules (table_of n bits cares)) (Ok (field (table_of n bits cares) next)))

-- a table, by whether care bytes follow its value bytes. 1, 4, 2 of n; 1, 3 of its values; 1, 3, 16 of its care bits
unfoldable pub table_at : Bool → List ℕ → ℕ → Reading Table
table_at cares s at = onward (inputs_at s at) (λ n p. onward (row_bits_at n s p) (λ bits q. cares_at cares n bits s q))

-- a record of a table alone, one of a report's
unfoldable pub table_record_at : List ℕ → ℕ → Reading Table
unfolding table_at
table_record_at s at = record_with tables_alone (λ (h : Head). table_at h.cares) s at
