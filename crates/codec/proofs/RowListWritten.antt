-- A row list that was read is written back: once a pair is out of range the list has not kept its ranges, so of one that has, each pair
-- stood above those before it, and the bytes are those of its counts. Where ranges are refused at once, every list that is read has
-- kept them. Assumes nothing.
use Rattle.std.specs.Prelude.{Ok}
use mathlib.Core.Path.{◌≡◌, refl, sym, ◌∙◌}
use mathlib.Core.Bool.{Bool, true, false}
use mathlib.Core.List.{List}
use Prim.Native.Nat.{ℕ, zero, suc, ◌+◌, ◌-◌, ◌≤◌, ◌<◌}
use native.Mathlib.Omega.{arith}
use lib.Dec.{ltb, leb}
use lib.ListN.{length, drop}
use borrow.Author.Tests.{ltb-true, leb-true}
use Rattle.numbers.specs.Tests.{all_at_most}
use Rattle.numbers.proofs.TestLaws.{no_true, and_left, and_right}
use Rattle.table.specs.Witness.{count_limit}
use Rattle.function.specs.Witness.{zeros}
use Rattle.function.proofs.CountLaws.{get_d_zeros}
use Rattle.codec.specs.Field.{Field, field}
use Rattle.codec.specs.Number.{number_bytes, number_at}
use Rattle.codec.specs.RowList.{pairs_from, row_list_bytes, RowList, Pair, length_fits, row_fits, count_fits, pair_at, stored_if, pairs_at, row_list_at}
use Rattle.codec.proofs.RisingPairs.{Spans, spans_join, PairRead, PairsRead, Before, before_set, no_pairs, one_pair}
use Rattle.codec.proofs.RowListParts.{pair_parts, pairs_end, pairs_parts, rows_parts}
use Rattle.codec.proofs.StandsLaws.{Stands, AllBytes}
use Rattle.codec.proofs.NumberLaws.{number_written}
use Rattle.codec.proofs.PairLaws.{row_list_bytes_lem}
use Rattle.codec.proofs.CountsLaws.{listed_limit, listed_past, listed_zeros, filled_some}

-- ---- whether ranges were kept

stored_fits : (fits : Bool) (row count : ℕ) (list : RowList) → (stored_if fits row count list).kept ≡ true → (fits ≡ true) × (list.kept ≡ true)
stored_fits true row count list e = (refl, e)
stored_fits false row count list e = absurd (no_true e)

module _ (strict : Bool) (rows : ℕ) (s : List ℕ) (f : Field RowList) where
  -- a list that has kept its ranges had kept them before
  kept_before : (left lowest : ℕ) (list : RowList) (at : ℕ) → pairs_at strict rows left lowest list s at ≡ Ok f → f.value.kept ≡ true
      → list.kept ≡ true
  kept_before zero lowest list at e k = rw (← pairs_end strict rows lowest list s at f e) at k
  kept_before (suc left) lowest list at e k =
      let (g, read, rest) = pairs_parts strict rows left lowest list s at f e in
      (stored_fits g.value.fits g.value.row g.value.count list (kept_before left _ _ g.next rest k)).1

  -- a strict list that had kept its ranges keeps them
  kept_after : (left lowest : ℕ) (list : RowList) (at : ℕ) → strict ≡ true → pairs_at strict rows left lowest list s at ≡ Ok f
      → list.kept ≡ true → f.value.kept ≡ true
  kept_after zero lowest list at h e k = rw (← pairs_end strict rows lowest list s at f e) k
  kept_after (suc left) lowest list at h e k =
      let (g, read, rest) = pairs_parts strict rows left lowest list s at f e in
      kept_after left _ _ g.next h rest (rw ((pair_parts strict rows lowest s at g read).obeys h) k)

-- a strict row list that is read has kept its ranges
pub strict_kept : (rows : ℕ) (s : List ℕ) (at : ℕ) (f : Field RowList) → row_list_at true rows s at ≡ Ok f → f.value.kept ≡ true
strict_kept rows s at f e =
    let parts = rows_parts true rows s at f e in
    kept_after true rows s f parts.pairs.value 0 _ parts.pairs.next refl parts.rest (parts.obeys refl)

-- ---- the bytes of what was read

-- a number that was read stands where it was
number_spans : (s : List ℕ) (at x next : ℕ) → AllBytes s → number_at s at ≡ Ok (field x next) → Spans s at (number_bytes x) next
number_spans s at x next b e = let read = number_written s at (field x next) b e in (read.stands, read.next)

-- a pair that was read and fits
pair_written : (strict : Bool) (rows lowest : ℕ) (s : List ℕ) (at : ℕ) (g : Field Pair) → AllBytes s → pair_at strict rows lowest s at ≡ Ok g
    → g.value.fits ≡ true → PairRead rows lowest s at g.value.row g.value.count g.next
pair_written strict rows lowest s at g b e fits =
    let parts = pair_parts strict rows lowest s at g e in
    let row = g.value.row in
    let count = g.value.count in
    let both = sym parts.tested ∙ fits in
    let row_held : row_fits rows lowest row ≡ true = and_left (row_fits rows lowest row) (count_fits count) both in
    let count_held : count_fits count ≡ true = and_right (row_fits rows lowest row) (count_fits count) both in
    record {
      rises = leb-true lowest row (and_left (leb lowest row) (ltb row rows) row_held);
      inside = ltb-true row rows (and_right (leb lowest row) (ltb row rows) row_held);
      above = ltb-true 0 count (and_left (ltb 0 count) (leb count count_limit) count_held);
      most = leb-true count count_limit (and_right (ltb 0 count) (leb count count_limit) count_held);
      spans = spans_join s at (number_bytes row) (number_bytes count) parts.middle g.next
          (number_spans s at row parts.middle b parts.row_read) (number_spans s parts.middle count g.next b parts.count_read);
    }

module _ (strict : Bool) (rows : ℕ) (s : List ℕ) (f : Field RowList) (most : rows ≤ 256) (bytes : AllBytes s) (kept : f.value.kept ≡ true) where
  -- so many pairs that were read, each of which fitted
  pairs_written : (left lowest m : ℕ) (list : RowList) (at : ℕ) → lowest + m ≡ 256 → Before rows lowest list.counts
      → pairs_at strict rows left lowest list s at ≡ Ok f → PairsRead rows lowest m list.counts left s at f.value.counts f.next
  pairs_written zero lowest m list at total b e =
      rw (← pairs_end strict rows lowest list s at f e) (no_pairs rows lowest m list.counts s at b)
  pairs_written (suc left) lowest m list at total b e =
      let (g, read, rest) = pairs_parts strict rows left lowest list s at f e in
      let row = g.value.row in
      let count = g.value.count in
      let fits = (stored_fits g.value.fits row count list (kept_before strict rows s f left _ _ g.next rest kept)).0 in
      let pair = pair_written strict rows lowest s at g bytes read fits in
      let after = before_set rows lowest list.counts s at row count g.next most b pair in
      one_pair rows lowest m list.counts left s at row count g.next f.value.counts f.next most total b pair
      (pairs_written left (suc row) (255 - row) _ g.next (omega (arith, pair.inside)) after (rw fits at rest))

-- a strict list in range is not empty
some_pairs : (strict : Bool) (rows pairs : ℕ) → length_fits strict rows pairs ≡ true → strict ≡ true → 0 < pairs
some_pairs true rows pairs e h = ltb-true 0 pairs (and_right (leb pairs rows) (ltb 0 pairs) e)
some_pairs false rows pairs e h = absurd (no_true h)

-- what a row list that was read says of its counts and its bytes
pub record RowsRead (strict : Bool) (rows : ℕ) (s : List ℕ) (at : ℕ) (f : Field RowList) : Type 0 where
  pub stands : Stands s at (row_list_bytes f.value.counts)
  pub next : f.next ≡ at + length (row_list_bytes f.value.counts)
  pub long : length f.value.counts ≡ 256
  pub limit : all_at_most count_limit f.value.counts ≡ true
  pub past : all_at_most 0 (drop rows f.value.counts) ≡ true
  pub some : strict ≡ true → all_at_most 0 f.value.counts ≡ false

-- a row list that was read and has kept its ranges is written back
pub rows_written : (strict : Bool) (rows : ℕ) (s : List ℕ) (at : ℕ) (f : Field RowList) → rows ≤ 256 → AllBytes s
    → row_list_at strict rows s at ≡ Ok f → f.value.kept ≡ true → RowsRead strict rows s at f
rows_written strict rows s at f most bytes e kept =
    let parts = rows_parts strict rows s at f e in
    let pairs = parts.pairs.value in
    let start = parts.pairs.next in
    let counts = f.value.counts in
    let none : Before rows 0 zeros = record { listed = listed_zeros rows; from = λ i h. get_d_zeros i } in
    let read = pairs_written strict rows s f most bytes kept pairs 0 256 _ start refl none parts.rest in
    let front = number_spans s at pairs start bytes parts.pairs_read in
    let both = spans_join s at (number_bytes pairs) (pairs_from counts 256 0) start f.next front read.spans in
    let whole : Spans s at (row_list_bytes counts) f.next = rw (row_list_bytes_lem counts, read.filled) both in
    record {
      stands = whole.0;
      next = whole.1;
      long = read.listed.long;
      limit = listed_limit read.listed;
      past = listed_past read.listed;
      some = λ h. filled_some counts (omega (arith, read.filled, some_pairs strict rows pairs (parts.obeys h) h));
    }
