-- The laws of `HeightsByThePage`. The true inputs of a row are added up input by input, so that what the rows of one value add up to is a sum of
-- the totals that a balance speaks of. Assumes nothing.
use mathlib.Core.Path.{◌≡◌, refl, sym, ◌∙◌, ap}
use mathlib.Core.Bool.{Bool, true, false}
use mathlib.Core.List.{List}
use Prim.Native.Nat.{ℕ, zero, suc, ◌*◌, ◌%◌, ◌^◌, ◌≤◌, ◌<◌}
use native.Mathlib.Nat.{mod-lt, mod-eq_of_lt}
use native.Mathlib.Numerals.{one-add}
use native.Mathlib.Omega.{arith}
use lib.Count.{ones, ones_cat}
use lib.Dec.{eqb}
use lib.ListN.{get_or}
use lib.Pow.{mod-pow-add, pow_pos}
use Rattle.numbers.specs.Sum.{sum_below}
use Rattle.numbers.specs.Tests.{same_bool}
use Rattle.numbers.proofs.SumLaws.{sum_below_ext, sum_below_mul, sum_below_none, sum_below_exchange}
use Rattle.types.specs.declared.table.Table.{Table}
use Rattle.function.specs.Function.{level}
use Rattle.function.specs.Witness.{only_if, side_sum, Balances, count_of}
use Rattle.table.specs.Table.{value, function_of}
use Rattle.table.proofs.TableLaws.{rows_le, level_lt}
use Rattle.heights.specs.Page.{true_inputs, manual_page}
use Rattle.heights.proofs.PageLaws.{among_eight, page_entry}
use Rattle.notation.specs.WitnessText.{height}
use Rattle.claims.specs.Tables.{true_in}
use Rattle.claims.specs.Report.{page_sum}

-- a level is 1 where the input is true, and 0 elsewhere
level_true : (l : ℕ) → l < 2 → l ≡ only_if (eqb l 1) 1
level_true zero h = refl
level_true (suc zero) h = refl
level_true (suc (suc l)) h = absurd (omega arith)

-- an entry is the true inputs of its row
counted : {n r : ℕ} → n ≤ 8 → r < 2 ^ n → get_or manual_page r 0 ≡ true_inputs n r
counted {r = r} h k = page_entry r (omega (arith, rows_le h)) ∙ among_eight h k

pub entry : (n r : ℕ) → n ≤ 8 → r < 2 ^ n → get_or manual_page r 0 ≡ sum_below n (λ place. only_if (true_in r place) 1)
unfolding true_inputs
entry n r h k =
    counted h k ∙ sum_below_ext n (level 2 r) (λ place. only_if (true_in r place) 1) (λ place l. level_true (level 2 r place) (level_lt r place))

-- a digit is the number of its ones
ones_digit : (x : ℕ) → x < 2 → ones x ≡ x
unfolding ones
ones_digit zero h = refl
ones_digit (suc zero) h = refl
ones_digit (suc (suc x)) h = absurd (omega arith)

-- the ones of the lowest n digits are the true inputs among n
ones_levels : (n r : ℕ) → ones (r % 2 ^ n) ≡ sum_below n (level 2 r)
unfolding ones sum_below
ones_levels zero r =
    let none : r % 2 ^ 0 ≡ 0 = omega arith in
    ap ones none
ones_levels (suc n) r =
    ap (λ (m : ℕ). ones (r % 2 ^ m)) (sym (one-add n))
    ∙ ap ones (mod-pow-add r 1 n)
    ∙ ones_cat n (level 2 r n) (r % 2 ^ n) (mod-lt r (pow_pos n))
    ∙ omega (arith, ones_digit (level 2 r n) (level_lt r n), ones_levels n r)

-- a count times a sum, if a test passes, is the sum of what passes
only_if_sum : (b : Bool) (c n : ℕ) (f : ℕ → ℕ) → only_if b (c * sum_below n f) ≡ sum_below n (λ p. only_if b (c * f p))
only_if_sum true c n f = sym (sum_below_mul n c f)
only_if_sum false c n f = sym (sum_below_none n)

same_true : (v : Bool) (x : ℕ) → only_if v x ≡ only_if (same_bool v true) x
same_true true x = refl
same_true false x = refl

module _ (t : Table) (counts : List ℕ) where
  -- what the rows of one value add up to: each its count times its true inputs
  abbrev side_height : Bool → ℕ
  side_height side = sum_below (2 ^ t.n) (λ r. only_if (same_bool (value t r) side) (count_of counts r * true_inputs t.n r))

  by_page : t.n ≤ 8 → (side : Bool) → side_height side ≡ page_sum t side counts
  by_page h side =
      sum_below_ext (2 ^ t.n) _ _ (λ r k. ap (λ (x : ℕ). only_if (same_bool (value t r) side) (count_of counts r * x)) (sym (counted h k)))

  of_true : height t counts ≡ side_height true
  unfolding height
  of_true = sum_below_ext (2 ^ t.n) _ _ (λ r k. same_true (value t r) (count_of counts r * true_inputs t.n r))

  -- added up input by input
  by_inputs : (side : Bool) → side_height side ≡ sum_below t.n (λ place. side_sum (function_of t) side (count_of counts) (suc place))
  unfolding true_inputs side_sum
  by_inputs side =
      sum_below_ext (2 ^ t.n) _ _ (λ r k. only_if_sum (same_bool (value t r) side) (count_of counts r) t.n (level 2 r))
      ∙ sum_below_exchange (2 ^ t.n) t.n (λ r place. only_if (same_bool (value t r) side) (count_of counts r * level 2 r place))

  pub true_rows_lem : t.n ≤ 8 → height t counts ≡ page_sum t true counts
  true_rows_lem h = of_true ∙ by_page h true

  pub false_rows : t.n ≤ 8 → Balances (function_of t) (count_of counts) → height t counts ≡ page_sum t false counts
  false_rows h balanced =
      of_true
      ∙ by_inputs true
      ∙ sum_below_ext t.n _ _ (λ place k. balanced.inputs (suc place) (omega arith) (omega arith))
      ∙ sym (by_inputs false)
      ∙ by_page h false

  pub bits : height t counts ≡ sum_below (2 ^ t.n) (λ r. only_if (value t r) (count_of counts r * ones r))
  unfolding height true_inputs
  bits =
      sum_below_ext (2 ^ t.n) _ _ (λ r k. ap (λ (x : ℕ). only_if (value t r) (count_of counts r * x)) (sym (ones_levels t.n r) ∙ ap ones (mod-eq_of_lt k)))
