-- What the definitions over a function say of a table's, in the words of document 01: when weights realise it and when counts balance ("Table,
-- gate, witness"), when an input turns its value, when a row fails and what it corrects ("The stepping machine"). A level is 0, or 1 where the
-- input is true. Assumes nothing.
use mathlib.Core.Path.{◌≡◌, refl, sym, ◌∙◌, ap}
use mathlib.Core.Bool.{Bool, true, false, not, cond, ◌&&◌, ◌||◌, and-true}
use mathlib.Core.List.{List}
use Prim.Native.Nat.{ℕ, zero, suc, ◌+◌, ◌*◌, ◌^◌, ◌<◌}
use native.Mathlib.Nat.{mul-zero, mul-one}
use native.Mathlib.Omega.{arith}
use borrow.Author.Tests.{le-ltb, ne_eqb}
use lib.Dec.{eqb, ltb}
use lib.ListN.{length, get_or}
use lib.IntN.{ℤ, pos, negsuc, ◌+ℤ◌, ◌*ℤ◌, +ℤ_idr, zero-*ℤ}
use lib.Signed.{lt_z}
use Rattle.numbers.specs.Sum.{sum_below, weighted_sum}
use Rattle.numbers.specs.Tests.{same_bool, all_below, first_from}
use Rattle.numbers.proofs.Ring.{*ℤ_idl}
use Rattle.numbers.proofs.SumLaws.{sum_below_ext}
use Rattle.numbers.proofs.FirstLaws.{first_cong}
use Rattle.types.specs.declared.table.Table.{Table}
use Rattle.types.specs.declared.vector.Vector.{Vector}
use Rattle.function.specs.Function.{level}
use Rattle.function.specs.Gate.{distance, gate_true, realises}
use Rattle.function.specs.Witness.{only_if, side_sum}
use Rattle.function.specs.Turns.{turns_at}
use Rattle.function.specs.Failing.{margin, fails, failing}
use Rattle.function.specs.Vector.{sign, corrected_by, zero_vector}
use Rattle.function.proofs.FailingLaws.{above_below}
use Rattle.function.proofs.VectorLaws.{corrected_weights, get_d_add_levels}
use Rattle.function.proofs.WitnessLaws.{side_term, side_sum_terms}
use Rattle.table.specs.Table.{rows, value, cared, function_of}
use Rattle.table.proofs.TableLaws.{level_lt}

-- a level of a table is below the top exactly if it is 0
lacks_below : (x : ℕ) → ltb x 1 ≡ eqb x 0
lacks_below zero = refl
lacks_below (suc x) = le-ltb (suc x) 1 (omega arith) ∙ sym (ne_eqb (suc x) 0 (λ e. omega arith))

-- a count times a level of a table counts where the level is 1
level_counts : (side : Bool) (count x : ℕ) → x < 2 → only_if side (count * x) ≡ only_if (side && eqb x 1) count
level_counts false count x h = refl
level_counts true count zero h = mul-zero count
level_counts true count (suc zero) h = mul-one count
level_counts true count (suc (suc x)) h = absurd (omega arith)

-- z times a level of a table is added where the level is 1
level_adds : (a z : ℤ) (x : ℕ) → x < 2 → a +ℤ pos x *ℤ z ≡ cond (eqb x 1) (a +ℤ z) a
level_adds a z zero h = ap (λ (y : ℤ). a +ℤ y) (zero-*ℤ z) ∙ +ℤ_idr a
level_adds a z (suc zero) h = ap (λ (y : ℤ). a +ℤ y) (*ℤ_idl z)
level_adds a z (suc (suc x)) h = absurd (omega arith)

-- a margin below 1, by the row's value
margin_below : (y : Bool) (d : ℤ) → lt_z (margin y d) (pos 1) ≡ cond y (lt_z d (pos 1)) (lt_z (negsuc 0) d)
margin_below true d = refl
margin_below false d = sym (above_below d)

module _ (t : Table) where
  -- the test that weights and T realise a table asks of every row whether they agree, or it is not cared for
  pub table_realises_test : (ws : List ℤ) (th : ℤ)
      → realises ws th (function_of t) ≡ all_below (rows t) (λ r. not (cared t r) || same_bool (gate_true ws th (level 2 r)) (value t r))
  unfolding realises
  table_realises_test ws th = refl

  -- row r lacks the place's input, making it true turns the table's value to `to`, and both rows are cared for
  pub table_turns : (to : Bool) (place r : ℕ)
      → turns_at (function_of t) to place r
      ≡ (cared t r && (cared t (r + 2 ^ place) && (eqb (level 2 r place) 0 && same_bool (value t r) (not to) && same_bool (value t (r + 2 ^ place)) to)))
  unfolding turns_at
  table_turns to place r =
      ap
      (λ (b : Bool). cared t r && (cared t (r + 2 ^ place) && (b && same_bool (value t r) (not to) && same_bool (value t (r + 2 ^ place)) to)))
      (lacks_below (level 2 r place))

  -- the total of a side is the counts of its rows
  pub table_total : (side : Bool) (count : ℕ → ℕ)
      → side_sum (function_of t) side count 0 ≡ sum_below (rows t) (λ r. only_if (same_bool (value t r) side) (count r))
  table_total side count =
      side_sum_terms (function_of t) side count 0
      ∙ sum_below_ext (rows t) (side_term (function_of t) side count 0) (λ r. only_if (same_bool (value t r) side) (count r))
      (λ r h. ap (only_if (same_bool (value t r) side)) (mul-one (count r)))

  -- for an input, of those rows in which it is true
  pub table_input_total : (side : Bool) (count : ℕ → ℕ) (place : ℕ)
      → side_sum (function_of t) side count (suc place)
      ≡ sum_below (rows t) (λ r. only_if (same_bool (value t r) side && eqb (level 2 r place) 1) (count r))
  table_input_total side count place =
      side_sum_terms (function_of t) side count (suc place)
      ∙ sum_below_ext (rows t) (side_term (function_of t) side count (suc place))
      (λ r. only_if (same_bool (value t r) side && eqb (level 2 r place) 1) (count r))
      (λ r h. level_counts (same_bool (value t r) side) (count r) (level 2 r place) (level_lt r place))

  -- row r fails: it is cared for, and d is below 1 on a true row, above −1 on a false row
  pub table_fails : (v : Vector) (r : ℕ)
      → fails (function_of t) v r
      ≡ (let d = distance v.a v.b (level 2 r) in cared t r && cond (value t r) (lt_z d (pos 1)) (lt_z (negsuc 0) d))
  unfolding fails
  table_fails v r = ap (λ (b : Bool). cared t r && b) (margin_below (value t r) (distance v.a v.b (level 2 r)))

  -- a correction adds 1 on a true row, and −1 on a false row, to the a of the true inputs
  pub table_corrected_a : (v : Vector) (r place : ℕ) → place < length v.a
      → get_or (corrected_by (value t r) (level 2 r) v).a place (pos 0)
      ≡ (let a = get_or v.a place (pos 0) in cond (eqb (level 2 r place) 1) (a +ℤ sign (value t r)) a)
  table_corrected_a v r place h =
      ap (λ (l : List ℤ). get_or l place (pos 0)) (corrected_weights (value t r) (level 2 r) v)
      ∙ get_d_add_levels (sign (value t r)) (level 2 r) v.a place h
      ∙ level_adds (get_or v.a place (pos 0)) (sign (value t r)) (level 2 r place) (level_lt r place)

-- ---- the vector 0

-- a row fails at the vector 0 exactly if it is cared for
zero_fails : (t : Table) (r : ℕ) → fails (function_of t) zero_vector r ≡ cared t r
unfolding fails distance weighted_sum
zero_fails t r = ap (λ (b : Bool). cared t r && b) (by (value t r)) ∙ and-true (cared t r)
  where
    none : distance zero_vector.a zero_vector.b (level 2 r) ≡ pos 0
    none = rw (mul-zero (level 2 r 0), mul-zero (level 2 r 1), mul-zero (level 2 r 2), mul-zero (level 2 r 3), mul-zero (level 2 r 4), mul-zero (level 2 r 5), mul-zero (level 2 r 6), mul-zero (level 2 r 7)) refl

    zero_below : (y : Bool) → lt_z (margin y (pos 0)) (pos 1) ≡ true
    zero_below true = refl
    zero_below false = refl

    by : (y : Bool) → lt_z (margin y (distance zero_vector.a zero_vector.b (level 2 r))) (pos 1) ≡ true
    by y = ap (λ (z : ℤ). lt_z (margin y z) (pos 1)) none ∙ zero_below y

-- so the lowest failing row is the lowest that is cared for
pub zero_failing : (t : Table) → failing (function_of t) zero_vector ≡ first_from (cared t) (rows t) 0
unfolding failing
zero_failing t = first_cong (fails (function_of t) zero_vector) (cared t) (rows t) 0 (zero_fails t)
