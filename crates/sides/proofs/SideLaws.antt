-- Laws of the sums over the rows of one side of a table: their bounds, and what an array of them holds. Assumes nothing.
use mathlib.Core.Path.{◌≡◌, refl, sym, ◌∙◌, ap}
use mathlib.Core.Bool.{Bool, true, false}
use mathlib.Core.List.{List}
use Prim.Native.Nat.{ℕ, zero, suc, ◌+◌, ◌*◌, ◌^◌, ◌≤◌, ◌<◌}
use native.Mathlib.Nat.{mul-le-mul_left}
use native.Mathlib.Omega.{arith}
use lib.Dec.{eqb}
use Rattle.std.proofs.Common.{length-take, get_or-take}
use lib.ListN.{length, get_or, take}
use lib.Pointwise.{pointwise, bytes_decides}
use Rattle.std.proofs.lemmas.Bool.Decides.{same_from_decides}
use borrow.Author.Tests.{eqb-true, eq-eqb}
use Rattle.numbers.specs.Sum.{sum_below}
use Rattle.numbers.specs.Tests.{same_bool, all_below}
use Rattle.numbers.specs.Tabulate.{tabulate}
use Rattle.numbers.proofs.SumLaws.{sum_below_most}
use Rattle.numbers.proofs.TestLaws.{no_true, not_passed, all_below_at, all_below_from}
use Rattle.numbers.proofs.TabulateLaws.{length_tabulate, get_d_tabulate, tabulate_get_d, tabulate_ext}
use Rattle.types.specs.declared.table.Table.{Table}
use Rattle.function.specs.Function.{level}
use Rattle.function.specs.Witness.{input_level, only_if, side_sum, count_of}
use Rattle.function.proofs.WitnessLaws.{side_term, side_sum_terms}
use Rattle.table.specs.Table.{rows, value, function_of}
use Rattle.table.proofs.TableLaws.{rows_le, level_lt}

-- an input's level is at most 1
pub input_level_le : (r i : ℕ) → input_level (level 2 r) i ≤ 1
input_level_le r zero = omega arith
input_level_le r (suc place) = omega (arith, level_lt r place)

-- a count times a level is at most the count
pub count_level_le : (x r i : ℕ) → x * input_level (level 2 r) i ≤ x
count_level_le x r i = omega (arith, mul-le-mul_left x (input_level_le r i))

-- a row adds at most its count
pub side_term_le : (t : Table) (side : Bool) (count : ℕ → ℕ) (i r : ℕ) → side_term (function_of t) side count i r ≤ count r
side_term_le t side count i r = by (same_bool (value t r) side)
  where
    by : (v : Bool) → only_if v (count r * input_level (level 2 r) i) ≤ count r
    by true = count_level_le (count r) r i
    by false = omega arith

-- the rows below m add at most m times the most that a count is
pub side_terms_le : (t : Table) (side : Bool) (count : ℕ → ℕ) (i most : ℕ) → ((r : ℕ) → count r ≤ most)
    → (m : ℕ)
    → sum_below m (side_term (function_of t) side count i) ≤ m * most
side_terms_le t side count i most h m =
    sum_below_most m most (side_term (function_of t) side count i) (λ r k. omega (arith, side_term_le t side count i r, h r))

-- the sum of a side of counts below 2^32, of which there are at most 256, is below 2^40
pub side_sum_lt : (t : Table) (side : Bool) (counts : List ℕ) (i : ℕ) → t.n ≤ 8 → ((r : ℕ) → count_of counts r ≤ 4294967295)
    → side_sum (function_of t) side (count_of counts) i < 2 ^ 40
side_sum_lt t side counts i h small =
    omega (
      arith,
      rows_le h,
      side_sum_terms (function_of t) side (count_of counts) i,
      side_terms_le t side (count_of counts) i 4294967295 small (rows t),
    )

-- an element of the sums that a call gave
pub sum_at : {sums : List ℕ} (f : ℕ → ℕ) (i : ℕ) → sums ≡ tabulate 9 f → i < 9 → get_or sums i 0 ≡ f i
sum_at f i e h = ap (λ (l : List ℕ). get_or l i 0) e ∙ get_d_tabulate f 9 i 0 h

-- the first n + 1 sums that a call gave
front : {sums : List ℕ} (f : ℕ → ℕ) (n : ℕ) → n ≤ 8 → sums ≡ tabulate 9 f → take (n + 1) sums ≡ tabulate (n + 1) f
front {sums} f n few e =
    tabulate_get_d f (n + 1) 0 (take (n + 1) sums) (omega (arith, length-take {A = ℕ}, ap length e, length_tabulate f 9))
    (λ i h. get_or-take (n + 1) sums i 0 h ∙ sum_at f i e (omega arith))

-- the first n + 1 sums that two calls gave are the same exactly if they are number by number
pub sums_same : {x y : List ℕ} (f g : ℕ → ℕ) (n : ℕ) → n ≤ 8 → x ≡ tabulate 9 f → y ≡ tabulate 9 g
    → pointwise eqb (take (n + 1) x) (take (n + 1) y) ≡ all_below (suc n) (λ i. eqb (f i) (g i))
sums_same {x} {y} f g n few xs ys =
    rw (front f n few xs, front g n few ys)
    (same_from_decides _ _ (bytes_decides _ _) (
      λ p. tabulate_ext f g (n + 1) (λ i h. eqb-true _ _ (all_below_at (suc n) _ p i (omega arith))),
      λ e. all_below_from (suc n) _ (λ i h. eq-eqb _ _ (at e i (omega arith))),
    ))
  where
    at : tabulate (n + 1) f ≡ tabulate (n + 1) g → (i : ℕ) → i < n + 1 → f i ≡ g i
    at e i h = sym (get_d_tabulate f (n + 1) i 0 h) ∙ ap (λ (l : List ℕ). get_or l i 0) e ∙ get_d_tabulate g (n + 1) i 0 h
