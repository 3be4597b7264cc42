-- A balanced witness excludes every gate, with integer weights of any number and size (such a function is called summable). The idea: with T as
-- one weight more, at an input of constant level 1, a gate's distance is one weighted sum. Counts that balance make the sum of the
-- distances over the true rows, each times its count, equal to that over the false rows; but the first is at least 0, and the second
-- below 0. Assumes nothing.
use mathlib.Core.Path.{◌≡◌, refl, sym, ◌∙◌, ap}
use mathlib.Core.Bool.{Bool, true, false}
use mathlib.Core.List.{List, ◌∷◌}
use Prim.Native.Nat.{ℕ, zero, suc, ◌*◌, ◌<◌}
use native.Mathlib.Nat.{zero-mul, mul-zero, mul-one}
use native.Mathlib.Decide.{dec_lt}
use native.Mathlib.Omega.{arith}
use lib.IntN.{ℤ, pos, negsuc, neg_ℤ, ◌+ℤ◌, ◌*ℤ◌, +ℤ_comm}
use lib.Signed.{◌≤ℤ◌, le_z}
use Rattle.numbers.specs.Sum.{sum_below, weighted_sum}
use Rattle.numbers.specs.Tests.{same_bool}
use Rattle.numbers.proofs.Int.{integers, parts_mul}
use Rattle.numbers.proofs.Ring.{*ℤ_idl}
use Rattle.numbers.proofs.SumLaws.{sum_z, sum_z_counted, sum_z_counted_le, sum_below_ext, weighted_sum_cons, weighted_sum_ext, weighted_sum_exchange}
use Rattle.function.specs.Function.{Function, levels, rows}
use Rattle.function.specs.Gate.{distance, Realises}
use Rattle.function.specs.Witness.{input_level, only_if, side_sum, Balances}
use Rattle.function.proofs.FunctionLaws.{level_none}

-- two lots of rows with the same total at each place have the same sum of weighted sums
lots_equal : (m : ℕ) (first second : ℕ → ℕ) (lv : ℕ → ℕ → ℕ) (ws : List ℤ)
    → ((place : ℕ) → sum_below m (λ r. first r * lv r place) ≡ sum_below m (λ r. second r * lv r place))
    → sum_z m (λ r. pos (first r) *ℤ weighted_sum ws (lv r)) ≡ sum_z m (λ r. pos (second r) *ℤ weighted_sum ws (lv r))
lots_equal m first second lv ws same =
    weighted_sum_exchange m first lv ws
    ∙ weighted_sum_ext ws (λ p. sum_below m (λ r. first r * lv r p)) (λ p. sum_below m (λ r. second r * lv r p)) (λ p h. same p)
    ∙ sym (weighted_sum_exchange m second lv ws)

-- so weighted sums that are at least 0 on the first lot and below 0 on the second leave the second empty
lots_clash : (m : ℕ) (first second : ℕ → ℕ) (lv : ℕ → ℕ → ℕ) (ws : List ℤ)
    → ((place : ℕ) → sum_below m (λ r. first r * lv r place) ≡ sum_below m (λ r. second r * lv r place))
    → ((r : ℕ) → r < m → 0 < first r → pos 0 ≤ℤ weighted_sum ws (lv r))
    → ((r : ℕ) → r < m → 0 < second r → weighted_sum ws (lv r) ≤ℤ negsuc 0)
    → 0 < sum_below m second → ⊥
lots_clash m first second lv ws same high low some =
    omega (
      integers,
      lots_equal m first second lv ws same,
      sum_z_counted_le m first (λ r. pos 0) (λ r. weighted_sum ws (lv r)) high,
      sum_z_counted_le m second (λ r. weighted_sum ws (lv r)) (λ r. negsuc 0) low,
      sum_z_counted m first (pos 0),
      sum_z_counted m second (negsuc 0),
      parts_mul (pos (sum_below m first)) (pos 0),
      parts_mul (pos (sum_below m second)) (negsuc 0),
    )

-- a gate's distance is one weighted sum, with −T as the weight of input 0
distance_sum : (ws : List ℤ) (th : ℤ) (l : ℕ → ℕ) → weighted_sum (neg_ℤ th ∷ ws) (input_level l) ≡ distance ws th l
unfolding distance
distance_sum ws th l =
    weighted_sum_cons (neg_ℤ th) ws (input_level l)
    ∙ ap (λ (x : ℤ). x +ℤ weighted_sum ws l) (*ℤ_idl (neg_ℤ th))
    ∙ +ℤ_comm (neg_ℤ th) (weighted_sum ws l)

-- a factor goes out of `only_if`
only_if_mul : (t : Bool) (c l : ℕ) → only_if t (c * l) ≡ only_if t c * l
only_if_mul true c l = refl
only_if_mul false c l = sym (zero-mul l)

-- a row that counts on a side has that side's value
only_if_side : (v side : Bool) (c : ℕ) → 0 < only_if (same_bool v side) c → (v ≡ side) × (0 < c)
only_if_side true true c h = (refl, h)
only_if_side true false c h = absurd (omega arith)
only_if_side false true c h = absurd (omega arith)
only_if_side false false c h = (refl, h)

-- a row that counts is cared for
counted_cared : {f : Function} {count : ℕ → ℕ} → Balances f count → (r : ℕ) → r < rows f → 0 < count r → f.cared r ≡ true
counted_cared {f} {count} b r h some = by (f.cared r) (b.cared r h)
  where
    by : (c : Bool) → (c ≡ false → count r ≡ 0) → c ≡ true
    by true none = refl
    by false none = absurd (omega (arith, none refl))

-- a function with a balanced witness has no gate
pub no_gate_lem : (f : Function) (count : ℕ → ℕ) → Balances f count → (ws : List ℤ) (th : ℤ) → Realises ws th f → ⊥
unfolding side_sum
no_gate_lem f count b ws th g =
    lots_clash (rows f) (lot true) (lot false) (λ r. input_level (levels f r)) (neg_ℤ th ∷ ws) same high low some
  where
    lot : Bool → ℕ → ℕ
    lot side r = only_if (same_bool (f.value r) side) (count r)

    total_lot : (side : Bool) (i : ℕ) → side_sum f side count i ≡ sum_below (rows f) (λ r. lot side r * input_level (levels f r) i)
    total_lot side i = sum_below_ext (rows f) _ _ (λ r h. only_if_mul (same_bool (f.value r) side) (count r) (input_level (levels f r) i))

    same : (i : ℕ) → sum_below (rows f) (λ r. lot true r * input_level (levels f r) i) ≡ sum_below (rows f) (λ r. lot false r * input_level (levels f r) i)
    same zero = sym (total_lot true 0) ∙ b.total ∙ total_lot false 0
    same (suc place) = by_place (dec_lt place f.places)
      where
        by_place : Dec (place < f.places)
            → sum_below (rows f) (λ r. lot true r * levels f r place) ≡ sum_below (rows f) (λ r. lot false r * levels f r place)
        by_place (yes h) = sym (total_lot true (suc place)) ∙ b.inputs (suc place) (omega arith) h ∙ total_lot false (suc place)
        by_place (no n) = sum_below_ext (rows f) _ _ (λ r h. rw (level_none f.top r place h (omega arith)) (simp mul-zero))

    some : 0 < sum_below (rows f) (lot false)
    some = simp mul-one at (rw (b.total, total_lot false 0) at b.above)

    row : (side : Bool) (r : ℕ) → r < rows f → 0 < lot side r → le_z (pos 0) (weighted_sum (neg_ℤ th ∷ ws) (input_level (levels f r))) ≡ side
    row side r h c =
        let s = only_if_side (f.value r) side (count r) c in
        rw (distance_sum ws th (levels f r)) (g r h (counted_cared b r h s.1) ∙ s.0)

    high : (r : ℕ) → r < rows f → 0 < lot true r → pos 0 ≤ℤ weighted_sum (neg_ℤ th ∷ ws) (input_level (levels f r))
    high r h c = omega (integers, row true r h c)

    low : (r : ℕ) → r < rows f → 0 < lot false r → weighted_sum (neg_ℤ th ∷ ws) (input_level (levels f r)) ≤ℤ negsuc 0
    low r h c = omega (integers, row false r h c)
