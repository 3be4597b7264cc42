-- `crate::vector::corrected_by` meets its contract. No sum wraps, since the corrected vector lies within a range of one more than the
-- vector's. Assumes nothing.
use mathlib.Core.Path.{◌≡◌, refl, sym, ◌∙◌, ap, ap₂}
use mathlib.Core.Bool.{Bool, true}
use mathlib.Core.List.{List, ◌++◌}
use Prim.Native.Nat.{ℕ, suc, ◌+◌, ◌≤◌, ◌<◌}
use native.Mathlib.Omega.{arith}
use lib.ListN.{length, get_or, set, drop}
use lib.Seq.{drop-cons, get_or_at}
use lib.IntN.{ℤ, pos, nat_abs, ◌+ℤ◌, ◌-ℤ◌, ◌*ℤ◌, zero-*ℤ, +ℤ_idr}
use mir.Syntax.{w32}
use mir.Val.{to_z, of_z, SFits}
use mir.Facts.{to_z-of_z}
use borrow.Author.Rules.{rules}
use Rattle.numbers.specs.Tabulate.{tabulate}
use Rattle.numbers.proofs.Int.{nat_abs_parts}
use Rattle.numbers.proofs.Ring.{*ℤ_idl}
use Rattle.numbers.proofs.Widths.{size_fits}
use Rattle.numbers.proofs.TabulateLaws.{filled, length_tabulate, tabulate_get_d, filled_none, filled_more, filled_all}
use Rattle.function.specs.Function.{level}
use Rattle.table.specs.Gate.{weight_limit, in_range}
use Rattle.table.proofs.TableLaws.{level_lt}
use Rattle.types.specs.declared.vector.Vector.{Vector}
use Rattle.function.specs.Vector.{sign, corrected_by}
use Rattle.function.proofs.VectorLaws.{get_d_add_levels, corrected_weights, corrected_threshold, length_corrected, vector_eq}
use Rattle.function.proofs.RangeLaws.{InRange, in_range_correct, in_range_at}
use Rattle.machine.proofs.RangeLaws.{row_in_range}
use Rattle.machine.proofs.vector.corrected_by.Goals as goal
use Rattle.machine.proofs.vector.corrected_by.Goals.{Joined-value, then-value, else-value, then-row-place-eq1, else-row-place-eq1}
use Rattle.machine.proofs.vector.corrected_by.Invariants.{weight}

module _ (value : Bool) (row : ℕ) (v : Vector) (place : ℕ) (h : place < length v.a) where
  weight_is : weight value row v place ≡ get_or v.a place (pos 0) +ℤ pos (level 2 row place) *ℤ sign value
  weight_is =
      ap (λ (l : List ℤ). get_or l place (pos 0)) (corrected_weights value (level 2 row) v) ∙ get_d_add_levels (sign value) (level 2 row) v.a place h

  -- a place whose input is true is added the sign
  weight_true : level 2 row place ≡ 1 → weight value row v place ≡ get_or v.a place (pos 0) +ℤ sign value
  weight_true e = rw (weight_is, e, *ℤ_idl)

  -- a place whose input is false keeps its weight
  weight_false : level 2 row place ≡ 0 → weight value row v place ≡ get_or v.a place (pos 0)
  weight_false e = rw (weight_is, e, zero-*ℤ, +ℤ_idr)

-- where an array is not filled yet, it has the old element
get_d_filled : (f : ℕ → ℤ) (old : List ℤ) (i : ℕ) → i < length old → get_or (filled f old i) i (pos 0) ≡ get_or old i (pos 0)
get_d_filled f old i h =
    ap (λ (l : List ℤ). get_or (tabulate i f ++ l) i (pos 0)) (drop-cons old i (pos 0) h)
    ∙ get_or_at (tabulate i f) (get_or old i (pos 0)) (drop (suc i) old) (pos 0) i (length_tabulate f i)

-- a number of one more than the limit fits 32 bits
limit_fits : {z : ℤ} → nat_abs z ≤ weight_limit + 1 → SFits w32 z
limit_fits {z} h = size_fits (omega (arith, nat_abs_parts z))

module _ (value : Bool) (row : ℕ) (v : Vector) (h : (row < 256) × (in_range weight_limit 8 v.a v.b ≡ true)) (eight : length v.a ≡ 8) where
  abbrev corrected : Vector
  corrected = corrected_by value (level 2 row) v

  before_range : InRange weight_limit 8 v.a v.b
  before_range = (in_range_correct weight_limit 8 v.a v.b).0 h.1

  after_range : InRange (weight_limit + 1) 8 corrected.a corrected.b
  after_range = row_in_range weight_limit 8 value row v h.0 eight before_range

  -- the weights when the loop comes to a place
  module _ (a : List ℤ) (place : ℕ) (below : place < 8) (so_far : a ≡ filled (weight value row v) v.a place) where
    -- the weight at the place is as it came
    here_is : get_or a place (pos 0) ≡ get_or v.a place (pos 0)
    here_is = rw (so_far, get_d_filled (weight value row v) v.a place (omega arith))

    here_fits : SFits w32 (get_or a place (pos 0))
    here_fits = rw here_is (limit_fits (omega (arith, in_range_at before_range place (omega arith))))

    -- the code's sum, where the input is true, is the corrected one
    sum_is : (step : ℕ) → to_z w32 step ≡ sign value → level 2 row place ≡ 1
        → to_z w32 (of_z w32 (get_or a place (pos 0))) +ℤ to_z w32 step ≡ weight value row v place
    sum_is step s e = ap₂ ◌+ℤ◌ (to_z-of_z here_fits ∙ here_is) s ∙ sym (weight_true value row v place (omega arith) e)

    sum_fits : (step : ℕ) → to_z w32 step ≡ sign value → level 2 row place ≡ 1
        → SFits w32 (to_z w32 (of_z w32 (get_or a place (pos 0))) +ℤ to_z w32 step)
    sum_fits step s e = rw (sum_is step s e) (limit_fits (in_range_at after_range place (omega arith)))

    -- where the input is false, the weight is that already
    kept_is : (level 2 row place ≡ 1 → ⊥) → get_or a place (pos 0) ≡ weight value row v place
    kept_is e = here_is ∙ sym (weight_false value row v place (omega arith) (omega (arith, level_lt row place, e)))

    -- the weights with the corrected one at the place are the next that the loop carries
    carried : (x : ℤ) → x ≡ weight value row v place → set a place x ≡ filled (weight value row v) v.a (place + 1)
    carried x e = filled_more _ _ place (omega arith) so_far e

  -- b less the step is the b of the corrected vector
  threshold_is : (b : ℤ) (step : ℕ) → b ≡ v.b → to_z w32 step ≡ sign value
      → to_z w32 (of_z w32 b) -ℤ to_z w32 step ≡ corrected.b
  threshold_is b step e s =
      let fits : SFits w32 b = rw e (limit_fits (omega (arith, before_range.threshold))) in
      ap₂ ◌-ℤ◌ (to_z-of_z fits ∙ e) s ∙ sym (corrected_threshold value (level 2 row) v)

  -- after the loop the weights are the corrected ones
  weights_are : (a : List ℤ) (place : ℕ) → place ≡ 8 → a ≡ filled (weight value row v) v.a place → a ≡ corrected.a
  weights_are a place e so_far =
      let f = weight value row v in
      filled_all f v.a place 8 (omega arith) (omega arith) so_far
      ∙ sym (tabulate_get_d f 8 (pos 0) corrected.a (length_corrected value (level 2 row) v ∙ eight) (λ i h. refl))

-- the step is the sign of the row's value
sign_at : {value taken : Bool} {step : ℤ} → value ≡ taken → step ≡ sign taken → step ≡ sign value
sign_at v s = s ∙ ap sign (sym v)

step_is : (c : Joined-value) → to_z w32 c.if-value.step-bits ≡ sign c.args.value
step_is c = elim c.if-value.branch [ then-value w ↦ sign_at w.if-value.true w.step-is | else-value w ↦ sign_at w.if-value.false w.step-is ]

pub loop-place-init : goal.loop-place-init
loop-place-init c = filled_none _ _

pub overflow_add-weight : goal.overflow_add-weight
overflow_add-weight c =
    let a = c.args in
    let place = c.loop-place.place in
    sum_fits a.value a.row a.v c.requires (search rules) c.loop-place.weight-items place (omega arith) c.loop-place.invariant
    c.if-value.step-bits (step_is (goal.at.overflow_add-weight c).Joined-value) c.if-row-place-eq1.true

pub loop-place-preserved : goal.loop-place-preserved
loop-place-preserved c =
    let a = c.args in
    let ws = c.loop-place.weight-items in
    let place = c.loop-place.place in
    let so_far = c.loop-place.invariant in
    let bits = c.if-value.step-bits in
    let eight : length a.v.a ≡ 8 = search rules in
    let step = step_is (goal.at.loop-place-preserved c).Joined-value in
    elim c.if-row-place-eq1.branch [
      | then-row-place-eq1 w ↦
          let fits = sum_fits a.value a.row a.v c.requires eight ws place (omega arith) so_far bits step w.if-row-place-eq1.true in
          let sum = sum_is a.value a.row a.v c.requires eight ws place (omega arith) so_far bits step w.if-row-place-eq1.true in
          w.weight-items-is ∙ carried a.value a.row a.v c.requires eight ws place (omega arith) so_far _ (to_z-of_z fits ∙ sum)
      | else-row-place-eq1 w ↦
          let kept = kept_is a.value a.row a.v c.requires eight ws place (omega arith) so_far w.if-row-place-eq1.false in
          w.weight-items-is ∙ carried a.value a.row a.v c.requires eight ws place (omega arith) so_far _ kept
    ]

pub overflow_sub-next : goal.overflow_sub-next
overflow_sub-next c =
    let a = c.args in
    let eight : length a.v.a ≡ 8 = search rules in
    rw (threshold_is a.value a.row a.v c.requires eight a.v.b c.if-value.step-bits refl (step_is (goal.at.overflow_sub-next c).Joined-value))
    (limit_fits (after_range a.value a.row a.v c.requires eight).threshold)

pub returns : goal.returns
returns c =
    let a = c.args in
    let eight : length a.v.a ≡ 8 = search rules in
    vector_eq _ _ (weights_are a.value a.row a.v c.requires eight c.loop-place.weight-items c.loop-place.place (omega arith) c.loop-place.invariant)
    (to_z-of_z (overflow_sub-next c) ∙ threshold_is a.value a.row a.v c.requires eight a.v.b c.if-value.step-bits refl (step_is (goal.at.returns c).Joined-value))
