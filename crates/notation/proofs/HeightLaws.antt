-- The height of a witness: what each row adds to it, and how much the rows of a table add at most where each count fits 32 bits.
-- Assumes nothing.
use mathlib.Core.Path.{◌≡◌, sym, ap}
use mathlib.Core.Bool.{Bool, true, false}
use mathlib.Core.List.{List}
use Prim.Native.Nat.{ℕ, ◌*◌, ◌≤◌}
use native.Mathlib.Nat.{mul-le-mul}
use native.Mathlib.Omega.{arith}
use Rattle.numbers.specs.Sum.{sum_below}
use Rattle.numbers.proofs.SumLaws.{sum_below_ext, sum_below_most}
use Rattle.types.specs.declared.table.Table.{Table}
use Rattle.table.specs.Table.{bit_at, rows, value}
use Rattle.function.specs.Witness.{only_if, count_of}
use Rattle.table.proofs.TableLaws.{rows_le}
use Rattle.heights.specs.Page.{true_inputs}
use Rattle.heights.proofs.PageLaws.{true_inputs_most, among_eight}
use Rattle.notation.specs.WitnessText.{height}

-- what a row adds to the height, by the values of a table, its true inputs being counted among eight
abbrev pub height_term : List ℕ → List ℕ → ℕ → ℕ
height_term values counts r = only_if (bit_at values r) (count_of counts r * true_inputs 8 r)

-- the height is what the rows add: a row of n inputs has no true one past them
pub height_terms : (t : Table) (counts : List ℕ) → t.n ≤ 8 → height t counts ≡ sum_below (rows t) (height_term t.bytes counts)
unfolding height
height_terms t counts h =
    sum_below_ext (rows t) (λ r. only_if (value t r) (count_of counts r * true_inputs t.n r)) (height_term t.bytes counts)
    (λ r k. ap (λ (x : ℕ). only_if (value t r) (count_of counts r * x)) (sym (among_eight h k)))

-- a count of 32 bits times the true inputs of a row, of which there are at most eight
pub product_most : {x : ℕ} (r : ℕ) → x ≤ 4294967295 → x * true_inputs 8 r ≤ 34359738360
product_most r h = mul-le-mul h (true_inputs_most 8 r)

module _ (t : Table) (counts : List ℕ) (small : (r : ℕ) → count_of counts r ≤ 4294967295) where
  -- what so many rows add at most
  height_below : (m : ℕ) → sum_below m (height_term t.bytes counts) ≤ m * 34359738360
  height_below m = sum_below_most m 34359738360 (height_term t.bytes counts) (λ r k. by (value t r) (product_most r (small r)))
    where
      by : {x : ℕ} (v : Bool) → x ≤ 34359738360 → only_if v x ≤ 34359738360
      by true l = l
      by false l = omega arith

  -- the height of eight inputs and fewer
  pub height_most : t.n ≤ 8 → height t counts ≤ 8796093020160
  height_most h = omega (arith, rows_le h, height_terms t counts h, height_below (rows t))
