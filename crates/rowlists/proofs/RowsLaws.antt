-- The reading of the pairs of a row list, one way through their definition at a time: one pair more, and its row. Assumes nothing.
use Rattle.std.specs.Prelude.{Ok, Err}
use Rattle.types.specs.declared.refusal.Refusal.{Refusal}
use mathlib.Core.Path.{◌≡◌, refl, sym, ◌∙◌, ap}
use mathlib.Core.Bool.{Bool, true, false}
use mathlib.Core.List.{List}
use Prim.Native.Nat.{ℕ, suc, ◌+◌, ◌-◌, ◌<◌}
use native.Mathlib.Numerals.{add-one}
use native.Mathlib.Omega.{arith}
use lib.Dec.{leb, ltb}
use lib.ListN.{set}
use borrow.Author.Tests.{ltb-true}
use Rattle.numbers.proofs.TestLaws.{and_left, and_right}
use Rattle.codec.specs.Field.{Field, field, onward}
use Rattle.codec.specs.RowList.{RowList, Pair, row_fits, count_fits, pair_at, lowest_after, stored_if, pairs_at}
use Rattle.codec.proofs.RowListParts.{pair_parts}

-- the row of a pair in its ranges is a row of the table
pub pair_fits_row : (strict : Bool) (rows lowest : ℕ) (s : List ℕ) (at : ℕ) (f : Field Pair) → pair_at strict rows lowest s at ≡ Ok f
    → f.value.fits ≡ true
    → f.value.row < rows
pair_fits_row strict rows lowest s at f e k =
    let p = pair_parts strict rows lowest s at f e in
    let row = f.value.row in
    let held : row_fits rows lowest row ≡ true = and_left (row_fits rows lowest row) (count_fits f.value.count) (sym p.tested ∙ k) in
    ltb-true row rows (and_right (leb lowest row) (ltb row rows) held)

module _ (strict : Bool) (rows left lowest : ℕ) (list : RowList) (s : List ℕ) (at : ℕ) where
  -- none are left
  pub pairs_none : left ≡ 0 → Ok (field list at) ≡ pairs_at strict rows left lowest list s at
  unfolding pairs_at
  pairs_none e = rw e

  pairs_suc : pairs_at strict rows (suc left) lowest list s at
      ≡ onward (pair_at strict rows lowest s at) (λ pair next.
      pairs_at strict rows left (lowest_after pair.fits lowest pair.row) (stored_if pair.fits pair.row pair.count list) s next)
  unfolding pairs_at
  pairs_suc = refl

module _ (strict : Bool) (rows left lowest : ℕ) (list : RowList) (s : List ℕ) (at : ℕ) (some : 0 < left) where
  one_more_lem : pairs_at strict rows (suc (left - 1)) lowest list s at ≡ pairs_at strict rows left lowest list s at
  one_more_lem = ap (λ (m : ℕ). pairs_at strict rows m lowest list s at) (omega arith)

  -- the next is refused
  pub pairs_refused : {n : Refusal} → pair_at strict rows lowest s at ≡ Err n → Err n ≡ pairs_at strict rows left lowest list s at
  pairs_refused e = rw (← one_more_lem, pairs_suc, e)

  module _ {f : Field Pair} (e : pair_at strict rows lowest s at ≡ Ok f) where
    pairs_read : {fits : Bool} → f.value.fits ≡ fits
        → pairs_at strict rows (left - 1) (lowest_after fits lowest f.value.row) (stored_if fits f.value.row f.value.count list) s f.next
        ≡ pairs_at strict rows left lowest list s at
    pairs_read k = rw (← one_more_lem, pairs_suc strict rows (left - 1) lowest list s at, e, k)

    -- the next is in its ranges, and stored
    pub pairs_stored : f.value.fits ≡ true
        → pairs_at strict rows (left - 1) (f.value.row + 1) (record { counts = set list.counts f.value.row f.value.count; kept = list.kept }) s f.next
        ≡ pairs_at strict rows left lowest list s at
    pairs_stored k = rw add-one (pairs_read k)

    -- the next is not in its ranges
    pub pairs_passed : f.value.fits ≡ false
        → pairs_at strict rows (left - 1) lowest (record { counts = list.counts; kept = false }) s f.next ≡ pairs_at strict rows left lowest list s at
    pairs_passed k = pairs_read k
