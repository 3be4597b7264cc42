-- A row list that was written is read back: at each row, the counts so far are those of the rows below it, and 0 from it on, and the
-- pairs of the other rows stand where reading goes on. Assumes nothing.
use Rattle.std.specs.Prelude.{Ok}
use mathlib.Core.Path.{◌≡◌, refl, sym, ◌∙◌}
use mathlib.Core.Bool.{Bool, true, false, not, ◌&&◌, ◌||◌}
use mathlib.Core.List.{List, ◌++◌}
use Prim.Native.Nat.{ℕ, zero, suc, ◌+◌, ◌≤◌, ◌<◌}
use native.Mathlib.Nat.{add-zero, add_assoc}
use native.Mathlib.Decide.{ℕ_discrete, dec_lt}
use native.Mathlib.Omega.{arith}
use lib.Dec.{ltb}
use lib.ListN.{length, drop, set, length-append, length-set}
use lib.Seq.{set-get_or, ext_get_or}
use borrow.Author.Tests.{lt-ltb, le-leb}
use Rattle.numbers.specs.Tests.{all_at_most}
use Rattle.numbers.proofs.TestLaws.{and_both}
use Rattle.table.specs.Witness.{count_limit}
use Rattle.function.specs.Witness.{count_of, zeros}
use Rattle.function.proofs.CountLaws.{get_d_zeros}
use Rattle.codec.specs.Field.{field}
use Rattle.codec.specs.Number.{number_bytes}
use Rattle.codec.specs.RowList.{pairs_from, filled_from, row_list_bytes, RowList, Pair, length_fits, row_fits, count_fits, pair_at, pairs_at, row_list_at}
use Rattle.codec.proofs.StandsLaws.{Stands, stands_front, stands_back}
use Rattle.codec.proofs.NumberLaws.{number_read}
use Rattle.codec.proofs.PairLaws.{row_list_bytes_lem, pairs_zero, pairs_skip, pairs_more, filled_zero, filled_skip, filled_more, filled_most}
use Rattle.codec.proofs.CountsLaws.{Listed, listed, listed_zeros, listed_most, some_filled, set_each}

-- what is in range is refused by neither kind of list
in_range : (strict : Bool) {fits : Bool} → fits ≡ true → (strict && not fits) ≡ false
in_range true e = rw e
in_range false e = refl

abbrev pair_of : ℕ → ℕ → Pair
pair_of row count = record { row = row; count = count; fits = true }

-- a pair in its ranges is read where it stands
pair_read : (strict : Bool) (rows lowest row count : ℕ) (s : List ℕ) (at : ℕ) → rows ≤ 256 → lowest ≤ row → row < rows → 0 < count
    → count ≤ count_limit → Stands s at (number_bytes row ++ number_bytes count)
    → pair_at strict rows lowest s at ≡ Ok (field (pair_of row count) (at + length (number_bytes row ++ number_bytes count)))
unfolding pair_at
pair_read strict rows lowest row count s at h low inside above most t =
    let row_held : row_fits rows lowest row ≡ true = and_both (le-leb lowest row low) (lt-ltb row rows inside) in
    let count_held : count_fits count ≡ true = and_both (lt-ltb 0 count above) (le-leb count count_limit most) in
    let row-stands = stands_front s at (number_bytes row) (number_bytes count) t in
    let count-stands = stands_back s at (number_bytes row) (number_bytes count) t in
    rw (
      number_read s at row (omega arith) row-stands,
      in_range strict row_held,
      number_read s (at + length (number_bytes row)) count (omega arith) count-stands,
      in_range strict count_held,
      and_both row_held count_held,
      length-append,
      add_assoc,
    )

-- no pairs left
pairs_none : (strict : Bool) (rows lowest : ℕ) (list : RowList) (s : List ℕ) (at : ℕ)
    → pairs_at strict rows 0 lowest list s at ≡ Ok (field list at)
unfolding pairs_at
pairs_none strict rows lowest list s at = refl

-- a pair in its ranges, and then the others
pairs_step : (strict : Bool) (rows left lowest row count : ℕ) (c s : List ℕ) (at next : ℕ)
    → pair_at strict rows lowest s at ≡ Ok (field (pair_of row count) next)
    → pairs_at strict rows (suc left) lowest (record { counts = c; kept = true }) s at
    ≡ pairs_at strict rows left (suc row) (record { counts = set c row count; kept = true }) s next
unfolding pairs_at
pairs_step strict rows left lowest row count c s at next e = rw e

-- the length of a row list, and then its pairs
rows_begin : (strict : Bool) (rows pairs : ℕ) (s : List ℕ) (at : ℕ) → pairs ≤ 256 → length_fits strict rows pairs ≡ true
    → Stands s at (number_bytes pairs)
    → row_list_at strict rows s at ≡ pairs_at strict rows pairs 0 (record { counts = zeros; kept = true }) s (at + length (number_bytes pairs))
unfolding row_list_at
rows_begin strict rows pairs s at h fits t = rw (number_read s at pairs (omega arith) t, in_range strict fits, fits)

-- counts that were read as far as a row: below it those of the list, 0 from it on
record SoFar (counts : List ℕ) (row : ℕ) (c : List ℕ) : Type 0 where
  size : length c ≡ 256
  below : (i : ℕ) → i < row → count_of c i ≡ count_of counts i
  from : (i : ℕ) → row ≤ i → count_of c i ≡ 0

-- before the first row
so_far_zeros : (counts : List ℕ) → SoFar counts 0 zeros
so_far_zeros counts = record { size = (listed_zeros 0).long; below = λ i h. absurd (omega arith); from = λ i h. get_d_zeros i }

-- with the row's own count they are read as far as the next
so_far_set : (counts : List ℕ) (row : ℕ) (c : List ℕ) → row < 256 → SoFar counts row c → SoFar counts (suc row) (set c row (count_of counts row))
so_far_set counts row c h so =
    let x = count_of counts row in
    let inside : row < length c = omega (arith, so.size) in
    record {
      size = length-set c row x ∙ so.size;
      below = set_each (λ i y. i < suc row → y ≡ count_of counts i) c row x inside (λ l. refl) (λ i n l. so.below i (omega arith));
      from = set_each (λ i y. suc row ≤ i → y ≡ 0) c row x inside (λ l. absurd (omega arith)) (λ i n l. so.from i (omega arith));
    }

-- a row whose count is 0 is read without a pair
so_far_skip : (counts : List ℕ) (row : ℕ) (c : List ℕ) → row < 256 → count_of counts row ≡ 0 → SoFar counts row c → SoFar counts (suc row) c
so_far_skip counts row c h e so =
    let same : count_of counts row ≡ count_of c row = e ∙ sym (so.from row (omega arith)) in
    rw (same, set-get_or) at (so_far_set counts row c h so)

module _ (strict : Bool) (rows : ℕ) (counts s : List ℕ) (most : rows ≤ 256) (l : Listed rows counts) where
  -- the pairs of so many rows from a row on, behind the counts that were read before
  pairs_read : (left row lowest : ℕ) (c : List ℕ) (at : ℕ) → row + left ≡ 256 → lowest ≤ row → SoFar counts row c
      → Stands s at (pairs_from counts left row)
      → pairs_at strict rows (filled_from counts left row) lowest (record { counts = c; kept = true }) s at
      ≡ Ok (field (record { counts = counts; kept = true }) (at + length (pairs_from counts left row)))
  pairs_read zero row lowest c at total low so t =
      let same : c ≡ counts = ext_get_or 0 c counts (so.size ∙ sym l.long) (λ i h. so.below i (omega (arith, so.size))) in
      rw (filled_zero, pairs_none, pairs_zero, same, add-zero)
  pairs_read (suc left) row lowest c at total low so t =
      elim (ℕ_discrete (count_of counts row) 0) [
        | yes z ↦
            let after = so_far_skip counts row c (omega arith) z so in
            let later = pairs_read left (suc row) lowest c at (omega arith) (omega arith) after (rw (pairs_skip counts left row z) at t) in
            rw (filled_skip counts left row z, pairs_skip counts left row z) later
        | no n ↦
            let x = count_of counts row in
            let pair = number_bytes row ++ number_bytes x in
            let rest = pairs_from counts left (suc row) in
            let above : 0 < x = omega arith in
            let both : Stands s at (pair ++ rest) = rw (pairs_more counts left row above) at t in
            let inside : row < rows = elim (dec_lt row rows) [ yes h ↦ h | no o ↦ absurd (omega (arith, l.past row (omega arith))) ] in
            let read = pair_read strict rows lowest row x s at most low inside above (l.limit row) (stands_front s at pair rest both) in
            let next = at + length pair in
            let after = so_far_set counts row c (omega arith) so in
            let later = pairs_read left (suc row) (suc row) (set c row x) next (omega arith) (omega arith) after (stands_back s at pair rest both) in
            rw (
              filled_more counts left row above,
              pairs_more counts left row above,
              pairs_step strict rows (filled_from counts left (suc row)) lowest row x c s at next read,
              length-append pair rest,
              ← add_assoc,
            )
            later
      ]

-- the length of a list of listed counts is in range: where it must not be empty, it is not
length_fits_lem : (strict : Bool) (rows : ℕ) (counts : List ℕ) → rows ≤ 256 → Listed rows counts → (strict ≡ true → all_at_most 0 counts ≡ false)
    → length_fits strict rows (filled_from counts 256 0) ≡ true
length_fits_lem strict rows counts most l some = and_both (le-leb (filled_from counts 256 0) rows (listed_most most l)) (by strict some)
  where
    by : (b : Bool) → (b ≡ true → all_at_most 0 counts ≡ false) → (not b || ltb 0 (filled_from counts 256 0)) ≡ true
    by true h = lt-ltb 0 (filled_from counts 256 0) (some_filled l (h refl))
    by false h = refl

-- a row list that was written is read back, wherever it stands
pub rows_read : (strict : Bool) (rows : ℕ) (counts : List ℕ) (s : List ℕ) (at : ℕ) → rows ≤ 256 → length counts ≡ 256
    → all_at_most count_limit counts ≡ true → all_at_most 0 (drop rows counts) ≡ true → (strict ≡ true → all_at_most 0 counts ≡ false)
    → Stands s at (row_list_bytes counts)
    → row_list_at strict rows s at ≡ Ok (field (record { counts = counts; kept = true }) (at + length (row_list_bytes counts)))
rows_read strict rows counts s at most long limit past some t =
    let l = listed rows counts long limit past in
    let pairs = filled_from counts 256 0 in
    let rest = pairs_from counts 256 0 in
    let both : Stands s at (number_bytes pairs ++ rest) = rw row_list_bytes_lem at t in
    let front = stands_front s at (number_bytes pairs) rest both in
    let back = stands_back s at (number_bytes pairs) rest both in
    let start = at + length (number_bytes pairs) in
    rows_begin strict rows pairs s at (filled_most counts 256 0) (length_fits_lem strict rows counts most l some) front
    ∙ pairs_read strict rows counts s most l 256 0 0 zeros start (omega arith) (omega arith) (so_far_zeros counts) back
    ∙ rw (row_list_bytes_lem, length-append (number_bytes pairs) rest, add_assoc)
