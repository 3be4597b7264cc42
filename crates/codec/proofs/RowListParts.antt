-- The parts of a row list that was read: its length and its pairs, each of two numbers, and that a list whose ranges are refused at once
-- has them in range. Assumes nothing.
use Rattle.types.specs.declared.refusal.Refusal.TheVariants as Refusal'
use Rattle.std.specs.Prelude.{Ok}
use mathlib.Core.Path.{◌≡◌, refl, sym, subst}
use mathlib.Core.Bool.{Bool, true, false, not, ◌&&◌}
use mathlib.Core.List.{List}
use Prim.Native.Nat.{ℕ, zero, suc}
use Rattle.numbers.proofs.TestLaws.{and_both}
use Rattle.function.specs.Witness.{zeros}
use Rattle.codec.specs.Field.{Field, Reading, field}
use Rattle.codec.specs.Number.{number_at}
use Rattle.codec.specs.RowList.{RowList, Pair, length_fits, row_fits, count_fits, pair_at, lowest_after, stored_if, pairs_at, row_list_at}
use Rattle.codec.proofs.FieldLaws.{onward_answered, checked_onward, checked_answered}

-- what a strict list is not refused for is in range
strict_fits : (strict fits : Bool) → (strict && not fits) ≡ false → strict ≡ true → fits ≡ true
strict_fits strict true e h = refl
strict_fits true false e h = sym e
strict_fits false false e h = h

-- a pair that was read: its two numbers, one after the other, and whether they are in range
pub record PairParts (strict : Bool) (rows lowest : ℕ) (s : List ℕ) (at : ℕ) (f : Field Pair) : Type 0 where
  pub middle : ℕ
  pub row_read : number_at s at ≡ Ok (field f.value.row middle)
  pub count_read : number_at s middle ≡ Ok (field f.value.count f.next)
  pub tested : f.value.fits ≡ (row_fits rows lowest f.value.row && count_fits f.value.count)
  pub obeys : strict ≡ true → f.value.fits ≡ true

-- where a pair was read, so were its parts
pub pair_parts : (strict : Bool) (rows lowest : ℕ) (s : List ℕ) (at : ℕ) (f : Field Pair) → pair_at strict rows lowest s at ≡ Ok f
    → PairParts strict rows lowest s at f
unfolding pair_at
pair_parts strict rows lowest s at f e =
    let (row, row_read, at_row) = onward_answered (number_at s at) _ f e in
    let (row_kept, at-middle) = checked_onward Refusal'.RowList (strict && not (row_fits rows lowest row.value)) _ f at_row in
    let (count, count_read, at_count) = onward_answered (number_at s row.next) _ f at-middle in
    let (count_kept, same) = checked_answered Refusal'.RowList (strict && not (count_fits count.value)) _ f at_count in
    subst (λ (g : Field Pair). PairParts strict rows lowest s at g) same
    (record {
      middle = row.next;
      row_read = row_read;
      count_read = count_read;
      tested = refl;
      obeys = λ h. and_both (strict_fits strict (row_fits rows lowest row.value) row_kept h) (strict_fits strict (count_fits count.value) count_kept h);
    })

-- no pairs left: the list is what was read before
pub pairs_end : (strict : Bool) (rows lowest : ℕ) (list : RowList) (s : List ℕ) (at : ℕ) (f : Field RowList)
    → pairs_at strict rows zero lowest list s at ≡ Ok f → field list at ≡ f
unfolding pairs_at
pairs_end strict rows lowest list s at f e = cc

-- reading the others after a pair
abbrev pub after_pair : Bool → (rows left lowest : ℕ) → RowList → List ℕ → Field Pair → Reading RowList
after_pair strict rows left lowest list s g =
    let pair = g.value in
    pairs_at strict rows left (lowest_after pair.fits lowest pair.row) (stored_if pair.fits pair.row pair.count list) s g.next

-- a pair, and then the others
pub pairs_parts : (strict : Bool) (rows left lowest : ℕ) (list : RowList) (s : List ℕ) (at : ℕ) (f : Field RowList)
    → pairs_at strict rows (suc left) lowest list s at ≡ Ok f
    → (g : Field Pair) × (pair_at strict rows lowest s at ≡ Ok g) × (after_pair strict rows left lowest list s g ≡ Ok f)
unfolding pairs_at
pairs_parts strict rows left lowest list s at f e = onward_answered (pair_at strict rows lowest s at) _ f e

-- the length of a row list, whether it is in range, and then the pairs
pub record RowsParts (strict : Bool) (rows : ℕ) (s : List ℕ) (at : ℕ) (f : Field RowList) : Type 0 where
  pub pairs : Field ℕ
  pub pairs_read : number_at s at ≡ Ok pairs
  pub obeys : strict ≡ true → length_fits strict rows pairs.value ≡ true
  pub rest : pairs_at strict rows pairs.value 0 (record { counts = zeros; kept = length_fits strict rows pairs.value }) s pairs.next ≡ Ok f

-- where a row list was read, so were its parts
pub rows_parts : (strict : Bool) (rows : ℕ) (s : List ℕ) (at : ℕ) (f : Field RowList) → row_list_at strict rows s at ≡ Ok f
    → RowsParts strict rows s at f
unfolding row_list_at
rows_parts strict rows s at f e =
    let (pairs, pairs_read, at_pairs) = onward_answered (number_at s at) _ f e in
    let (kept, rest) = checked_onward Refusal'.RowList (strict && not (length_fits strict rows pairs.value)) _ f at_pairs in
    record { pairs = pairs; pairs_read = pairs_read; obeys = strict_fits strict (length_fits strict rows pairs.value) kept; rest = rest }
