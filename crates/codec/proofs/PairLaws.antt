-- The pairs of a row list by rows: none, one row more at the front or at the end, rows in two parts, and rows whose counts are all 0.
-- Assumes nothing.
use mathlib.Core.Path.{◌≡◌, refl, sym, ◌∙◌}
use mathlib.Core.Bool.{Bool, true, false}
use mathlib.Core.List.{List, [], ◌++◌, append-nil, append_assoc}
use Prim.Native.Nat.{ℕ, zero, suc, ◌+◌, ◌≤◌, ◌<◌}
use native.Mathlib.Nat.{add-zero, zero-add, add-suc, suc-add, add_assoc}
use native.Mathlib.Decide.{ℕ_discrete, dec_lt}
use native.Mathlib.Numerals.{add-one}
use native.Mathlib.Omega.{arith}
use lib.Dec.{ltb}
use borrow.Author.Tests.{lt-ltb}
use Rattle.function.specs.Witness.{only_if, count_of}
use Rattle.codec.specs.Number.{number_bytes}
use Rattle.codec.specs.RowList.{pair_bytes, pairs_from, filled_from, row_list_bytes}

-- a row list is the number of its pairs, and then its pairs
pub row_list_bytes_lem : (counts : List ℕ) → row_list_bytes counts ≡ number_bytes (filled_from counts 256 0) ++ pairs_from counts 256 0
unfolding row_list_bytes
row_list_bytes_lem counts = refl

-- no rows have no pairs
pub pairs_zero : (counts : List ℕ) (row : ℕ) → pairs_from counts zero row ≡ []
unfolding pairs_from
pairs_zero counts row = refl

-- the pair of the first row, then those of the others
pub pairs_suc : (counts : List ℕ) (m row : ℕ) → pairs_from counts (suc m) row ≡ pair_bytes row (count_of counts row) ++ pairs_from counts m (suc row)
unfolding pairs_from
pairs_suc counts m row = refl

-- no rows, no pairs to count
pub filled_zero : (counts : List ℕ) (row : ℕ) → filled_from counts zero row ≡ 0
unfolding filled_from
filled_zero counts row = refl

-- one for the first row where its count is above 0, and those of the others
pub filled_suc : (counts : List ℕ) (m row : ℕ)
    → filled_from counts (suc m) row ≡ only_if (ltb 0 (count_of counts row)) 1 + filled_from counts m (suc row)
unfolding filled_from
filled_suc counts m row = refl

-- a first row whose count is 0 has no pair
pub pairs_skip : (counts : List ℕ) (m row : ℕ) → count_of counts row ≡ 0 → pairs_from counts (suc m) row ≡ pairs_from counts m (suc row)
pairs_skip counts m row e = rw (pairs_suc counts m row, e)

-- and is not counted
pub filled_skip : (counts : List ℕ) (m row : ℕ) → count_of counts row ≡ 0 → filled_from counts (suc m) row ≡ filled_from counts m (suc row)
filled_skip counts m row e = rw (filled_suc counts m row, e, zero-add)

-- the pair of a count above 0
pub pair_above : (row count : ℕ) → 0 < count → pair_bytes row count ≡ number_bytes row ++ number_bytes count
pair_above row zero h = absurd (omega arith)
pair_above row (suc count) h = refl

-- a first row whose count is above 0 has a pair
pub pairs_more : (counts : List ℕ) (m row : ℕ) → 0 < count_of counts row
    → pairs_from counts (suc m) row ≡ (number_bytes row ++ number_bytes (count_of counts row)) ++ pairs_from counts m (suc row)
pairs_more counts m row h = rw (pairs_suc counts m row, pair_above row (count_of counts row) h)

-- and is counted
pub filled_more : (counts : List ℕ) (m row : ℕ) → 0 < count_of counts row → filled_from counts (suc m) row ≡ suc (filled_from counts m (suc row))
filled_more counts m row h = rw (filled_suc counts m row, lt-ltb 0 (count_of counts row) h) (omega arith)

-- the pairs of rows in two parts
pub pairs_add : (counts : List ℕ) (k m row : ℕ) → pairs_from counts (k + m) row ≡ pairs_from counts k row ++ pairs_from counts m (row + k)
pairs_add counts zero m row = rw (zero-add, pairs_zero, add-zero)
pairs_add counts (suc k) m row =
    rw (suc-add, pairs_suc counts (k + m) row, pairs_add counts k m (suc row), pairs_suc counts k row, append_assoc, suc-add, add-suc)

-- and how many they are
pub filled_add : (counts : List ℕ) (k m row : ℕ) → filled_from counts (k + m) row ≡ filled_from counts k row + filled_from counts m (row + k)
filled_add counts zero m row = rw (zero-add, filled_zero, add-zero, zero-add)
filled_add counts (suc k) m row =
    rw (suc-add, filled_suc counts (k + m) row, filled_add counts k m (suc row), filled_suc counts k row, add_assoc, suc-add, add-suc)

-- one row more: its pair comes last
pub pairs_snoc : (counts : List ℕ) (m row : ℕ)
    → pairs_from counts (suc m) row ≡ pairs_from counts m row ++ pair_bytes (row + m) (count_of counts (row + m))
pairs_snoc counts m row = rw (← add-one m, pairs_add counts m 1 row, pairs_suc counts 0 (row + m), pairs_zero, append-nil)

-- one row more: one pair more where its count is above 0
pub filled_snoc : (counts : List ℕ) (m row : ℕ)
    → filled_from counts (suc m) row ≡ filled_from counts m row + only_if (ltb 0 (count_of counts (row + m))) 1
filled_snoc counts m row = rw (← add-one m, filled_add counts m 1 row, filled_suc counts 0 (row + m), filled_zero, add-zero)

one_most : (b : Bool) → only_if b 1 ≤ 1
one_most true = omega arith
one_most false = omega arith

-- at most as many pairs as rows
pub filled_most : (counts : List ℕ) (m row : ℕ) → filled_from counts m row ≤ m
filled_most counts zero row = omega (arith, filled_zero counts row)
filled_most counts (suc m) row =
    omega (arith, filled_suc counts m row, filled_most counts m (suc row), one_most (ltb 0 (count_of counts row)))

-- the counts of so many rows from a row on are all 0
abbrev pub Clear : List ℕ → ℕ → ℕ → Type 0
Clear counts m row = (i : ℕ) → row ≤ i → i < row + m → count_of counts i ≡ 0

-- rows whose counts are 0 have no pairs
pub pairs_clear : (counts : List ℕ) (m row : ℕ) → Clear counts m row → pairs_from counts m row ≡ []
pairs_clear counts zero row h = pairs_zero counts row
pairs_clear counts (suc m) row h =
    pairs_skip counts m row (h row (omega arith) (omega arith)) ∙ pairs_clear counts m (suc row) (λ i l k. h i (omega arith) (omega arith))

-- and none is counted
pub filled_clear : (counts : List ℕ) (m row : ℕ) → Clear counts m row → filled_from counts m row ≡ 0
filled_clear counts zero row h = filled_zero counts row
filled_clear counts (suc m) row h =
    filled_skip counts m row (h row (omega arith) (omega arith)) ∙ filled_clear counts m (suc row) (λ i l k. h i (omega arith) (omega arith))

-- where none is counted, all counts are 0
pub clear_filled : (counts : List ℕ) (m row : ℕ) → filled_from counts m row ≡ 0 → Clear counts m row
clear_filled counts zero row e i h k = absurd (omega arith)
clear_filled counts (suc m) row e i h k =
    let zero-here : count_of counts row ≡ 0 = elim (dec_lt 0 (count_of counts row)) [
      | yes l ↦ absurd (omega (arith, filled_more counts m row l))
      | no n ↦ omega arith
    ] in
    elim (ℕ_discrete row i) [
      | yes p ↦ rw p at zero-here
      | no n ↦ clear_filled counts m (suc row) (sym (filled_skip counts m row zero-here) ∙ e) i (omega arith) (omega arith)
    ]
