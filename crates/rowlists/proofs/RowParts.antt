-- The bytes of a row list by rows, as a loop over the rows counts and writes them: those of one row more, and bounds of how many there
-- are. Assumes nothing.
use mathlib.Core.Path.{◌≡◌, ◌∙◌, ap}
use mathlib.Core.Bool.{true}
use mathlib.Core.List.{List, ◌++◌, append-nil}
use Prim.Native.Nat.{ℕ, zero, suc, ◌+◌, ◌*◌, ◌-◌, ◌≤◌}
use native.Mathlib.Nat.{zero-add}
use native.Mathlib.Numerals.{add-one}
use native.Mathlib.Omega.{arith}
use lib.ListN.{length, length-append, drop}
use lib.Seq.{get_or-drop}
use Rattle.numbers.specs.Tests.{all_at_most}
use Rattle.numbers.proofs.TestLaws.{all_at_most_at}
use Rattle.function.specs.Witness.{count_of}
use Rattle.codec.specs.Number.{number_bytes}
use Rattle.codec.specs.RowList.{pair_bytes, pairs_from, filled_from, row_list_bytes}
use Rattle.codec.proofs.NumberLaws.{number_length}
use Rattle.codec.proofs.PairLaws.{Clear, row_list_bytes_lem, pairs_zero, pairs_snoc, pairs_add, pairs_clear, filled_add, filled_clear}
use Rattle.codec.proofs.WrittenLaws.{turns_most}

-- a pair takes at most six bytes
pub pair_most : (row count : ℕ) → length (pair_bytes row count) ≤ 6
pair_most row zero = omega arith
pair_most row (suc count) = rw length-append (omega (arith, number_length row, number_length (suc count)))

module _ (counts : List ℕ) where
  -- the bytes of the pairs of the rows below a row, and of the pair of a row
  abbrev pub pairs : ℕ → List ℕ
  pairs row = pairs_from counts row 0

  abbrev pub pair_of : ℕ → List ℕ
  pair_of row = pair_bytes row (count_of counts row)

  -- one row more: its pair comes last
  pub pairs_next : (row : ℕ) → pairs (row + 1) ≡ pairs row ++ pair_of row
  pairs_next row = rw (add-one, pairs_snoc counts row 0, zero-add)

  -- a row takes at most six bytes
  pub pairs_most : (row : ℕ) → length (pairs row) ≤ 6 * row
  pairs_most = turns_most pairs pair_of pairs_next 6 (pairs_zero counts 0) (λ row. pair_most row (count_of counts row))

  -- where the counts past so many rows are 0, the list has the pairs of these rows alone
  module _ (rows : ℕ) (few : rows ≤ 256) (past : all_at_most 0 (drop rows counts) ≡ true) where
    rest_clear : Clear counts (256 - rows) rows
    rest_clear i h k =
        let behind : count_of counts (rows + (i - rows)) ≤ 0 = rw get_or-drop at (all_at_most_at 0 (drop rows counts) past (i - rows)) in
        let here : rows + (i - rows) ≡ i = omega arith in
        omega (arith, ap (count_of counts) here, behind)

    all_rows : 256 ≡ rows + (256 - rows)
    all_rows = omega arith

    filled_rows : filled_from counts 256 0 ≡ filled_from counts rows 0
    filled_rows =
        ap (λ (m : ℕ). filled_from counts m 0) all_rows
        ∙ filled_add counts rows (256 - rows) 0
        ∙ rw (zero-add, filled_clear counts (256 - rows) rows rest_clear) (omega arith)

    pairs_rows : pairs 256 ≡ pairs rows
    pairs_rows =
        ap pairs all_rows
        ∙ pairs_add counts rows (256 - rows) 0
        ∙ rw (zero-add, pairs_clear counts (256 - rows) rows rest_clear) (append-nil (pairs rows))

    pub list_of_rows : row_list_bytes counts ≡ number_bytes (filled_from counts rows 0) ++ pairs rows
    list_of_rows = rw (row_list_bytes_lem counts, filled_rows, pairs_rows)
