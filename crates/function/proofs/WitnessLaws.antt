-- Laws of the sums over the rows of one side: what a row adds to them, and a count more; and the tests `counts_cared` and `balances` with
-- their meaning, both directions. Assumes nothing.
use mathlib.Core.Path.{◌≡◌, refl, sym, ◌∙◌, ap}
use mathlib.Core.Bool.{Bool, true, false, ◌&&◌, ◌||◌}
use mathlib.Core.Logic.{◌↔◌}
use mathlib.Core.List.{List}
use Prim.Native.Nat.{ℕ, zero, suc, ◌+◌, ◌*◌, ◌≤◌, ◌<◌}
use native.Mathlib.Omega.{arith}
use lib.Dec.{ltb, eqb}
use lib.ListN.{length}
use borrow.Author.Tests.{ltb-true, lt-ltb, eqb-true, eq-eqb}
use Rattle.numbers.specs.Sum.{sum_below}
use Rattle.numbers.specs.Tests.{same_bool, all_below}
use Rattle.numbers.proofs.SumLaws.{sum_below_ext, sum_below_most, sum_below_more, sum_below_term}
use Rattle.numbers.proofs.TestLaws.{no_true, and_left, and_right, and_both, same_bool_refl, all_below_at, all_below_from}
use Rattle.function.specs.Function.{Function, levels, rows}
use Rattle.function.specs.Witness.{input_level, only_if, side_sum, Balances, counts_cared, balances, count_of, one_more, zeros}
use Rattle.function.proofs.CountLaws.{one_more_same, one_more_other, get_d_zeros}

-- the two sides of a balance have the same total of each input, of input 0 too
pub side_sums_equal : {f : Function} {count : ℕ → ℕ} → Balances f count → (i : ℕ) → i ≤ f.places → side_sum f true count i ≡ side_sum f false count i
side_sums_equal b zero h = b.total
side_sums_equal b (suc i) h = b.inputs (suc i) (omega arith) h

-- what a row adds to the sum of a side
abbrev pub side_term : Function → Bool → (ℕ → ℕ) → ℕ → ℕ → ℕ
side_term f side count i r = only_if (same_bool (f.value r) side) (count r * input_level (levels f r) i)

module _ (f : Function) where
  -- the sum of a side is what its rows add
  pub side_sum_terms : (side : Bool) (count : ℕ → ℕ) (i : ℕ) → side_sum f side count i ≡ sum_below (rows f) (side_term f side count i)
  unfolding side_sum
  side_sum_terms side count i = refl

  -- counts that agree on the rows have the same sums
  pub side_sum_ext : (side : Bool) (c d : ℕ → ℕ) (i : ℕ) → ((r : ℕ) → r < rows f → c r ≡ d r) → side_sum f side c i ≡ side_sum f side d i
  unfolding side_sum
  side_sum_ext side c d i h =
      sum_below_ext (rows f) (side_term f side c i) (side_term f side d i)
      (λ r k. ap (λ (x : ℕ). only_if (same_bool (f.value r) side) (x * input_level (levels f r) i)) (h r k))

  -- a row's count, times the level of an input, is at most the sum of its side
  pub side_sum_term : (count : ℕ → ℕ) (i r : ℕ) → r < rows f → count r * input_level (levels f r) i ≤ side_sum f (f.value r) count i
  unfolding side_sum
  side_sum_term count i r h =
      omega (
        arith,
        sum_below_term (rows f) (side_term f (f.value r) count i) r h,
        ap (λ (b : Bool). only_if b (count r * input_level (levels f r) i)) (same_bool_refl (f.value r)),
      )

  term : Bool → ℕ → ℕ → ℕ → ℕ
  term side i q c = only_if (same_bool (f.value q) side) (c * input_level (levels f q) i)

  -- with a count more of row r, the sum of r's side has r's level more
  pub side_sum_one_more : (side : Bool) (counts : List ℕ) (i r : ℕ) → r < rows f → r < length counts
      → side_sum f side (count_of (one_more r counts)) i ≡ side_sum f side (count_of counts) i + only_if (same_bool (f.value r) side) (input_level (levels f r) i)
  unfolding side_sum term
  side_sum_one_more side counts i r h l =
      sum_below_more (rows f) (λ q. term side i q (count_of counts q)) (λ q. term side i q (count_of (one_more r counts) q)) r _ h
      (ap (term side i r) (one_more_same r counts l) ∙ more (same_bool (f.value r) side) (count_of counts r) (input_level (levels f r) i))
      (λ q n. ap (term side i q) (one_more_other r q counts n))
    where
      more : (b : Bool) (c x : ℕ) → only_if b ((c + 1) * x) ≡ only_if b (c * x) + only_if b x
      more true c x = omega arith
      more false c x = omega arith

  -- without counts the sums are 0
  pub side_sum_zeros : (side : Bool) (i : ℕ) → side_sum f side (count_of zeros) i ≡ 0
  unfolding side_sum term
  side_sum_zeros side i = omega (arith, sum_below_most (rows f) 0 (λ q. term side i q (count_of zeros q)) (λ q l. nothing q))
    where
      no_term : (b : Bool) (x : ℕ) → only_if b (0 * x) ≤ 0
      no_term true x = omega arith
      no_term false x = omega arith

      nothing : (q : ℕ) → term side i q (count_of zeros q) ≤ 0
      nothing q = rw (get_d_zeros q) (no_term (same_bool (f.value q) side) (input_level (levels f q) i))

-- the test of a row's count passes exactly if a row that is not cared for has none
none_unless : (cared : Bool) (c : ℕ) → (cared || eqb c 0) ≡ true ↔ (cared ≡ false → c ≡ 0)
none_unless true c = (λ e free. absurd (no_true (sym free)), λ none. refl)
none_unless false c = (λ e free. eqb-true c 0 e, λ none. eq-eqb c 0 (none refl))

module _ (f : Function) (count : ℕ → ℕ) where
  -- the test that rows that are not cared for have no count says so
  pub counts_cared_correct : counts_cared f count ≡ true ↔ ((r : ℕ) → r < rows f → f.cared r ≡ false → count r ≡ 0)
  unfolding counts_cared
  counts_cared_correct = (
    λ e r h. (none_unless (f.cared r) (count r)).0 (all_below_at (rows f) allowed e r h),
    λ none. all_below_from (rows f) allowed (λ r h. (none_unless (f.cared r) (count r)).1 (none r h)),
  )
    where
      allowed : ℕ → Bool
      allowed r = f.cared r || eqb (count r) 0

  -- the test that counts balance says so
  pub balances_correct : balances f count ≡ true ↔ Balances f count
  unfolding balances
  balances_correct = (balanced, passes)
    where
      same : ℕ → Bool
      same i = eqb (side_sum f true count i) (side_sum f false count i)

      above : Bool
      above = ltb 0 (side_sum f true count 0)

      equal : Bool
      equal = all_below (suc f.places) same

      balanced : balances f count ≡ true → Balances f count
      balanced e =
          let sums = and_left (above && equal) (counts_cared f count) e in
          let all = all_below_at (suc f.places) same (and_right above equal sums) in
          record {
            total = eqb-true _ _ (all 0 (omega arith));
            above = ltb-true _ _ (and_left above equal sums);
            inputs = λ i l h. eqb-true _ _ (all i (omega arith));
            cared = counts_cared_correct.0 (and_right (above && equal) (counts_cared f count) e);
          }

      passes : Balances f count → balances f count ≡ true
      passes b =
          and_both
          (and_both (lt-ltb _ _ b.above) (all_below_from (suc f.places) same (λ i h. eq-eqb _ _ (side_sums_equal b i (omega arith)))))
          (counts_cared_correct.1 b.cared)
