-- The trace of a state: v is s plus each row's correction times its count. A correction by row r adds r's levels to the sums of r's side, as it
-- adds them to v or takes them away, so it keeps the trace; where the mark is set, all sums are 0 and v is s. Assumes nothing.
use mathlib.Core.Path.{◌≡◌, refl, sym, ◌∙◌, ap₂, subst}
use mathlib.Core.Bool.{Bool, true, false}
use Prim.Native.Nat.{ℕ, ◌+◌, ◌≤◌, ◌<◌}
use native.Mathlib.Omega.{arith}
use lib.IntN.{ℤ, pos, negsuc, ◌+ℤ◌, ◌*ℤ◌}
use Rattle.numbers.specs.Tests.{same_bool}
use Rattle.numbers.proofs.Int.{integers, parts_add, parts_mul}
use Rattle.function.specs.Function.{Function, levels, rows, Fits}
use Rattle.function.specs.Witness.{input_level, only_if, side_sum, count_of, one_more, zeros}
use Rattle.types.specs.declared.vector.Vector.{Vector}
use Rattle.types.specs.declared.state.State.{State}
use Rattle.function.specs.Vector.{sign, corrected_by, component}
use Rattle.state.specs.Machine.{corrected}
use Rattle.state.specs.Sound.{Shaped, Traced}
use Rattle.function.proofs.VectorLaws.{component_corrected}
use Rattle.function.proofs.WitnessLaws.{side_sum_one_more, side_sum_zeros}
use Rattle.state.proofs.MachineLaws.{corrected_is}

one_side : (y : Bool) → only_if (same_bool y true) 1 + only_if (same_bool y false) 1 ≡ 1
one_side true = refl
one_side false = refl

-- what a correction adds to a component it adds to the sum of its side
balance_more : (y : Bool) (c d : ℤ) (f t x : ℕ) → c +ℤ pos f ≡ d +ℤ pos t
    → c +ℤ sign y *ℤ pos x +ℤ pos (f + only_if (same_bool y false) x) ≡ d +ℤ pos (t + only_if (same_bool y true) x)
balance_more true c d f t x e =
    omega (
      integers,
      parts_add c (pos f),
      parts_add d (pos t),
      parts_mul (pos 1) (pos x),
      parts_add c (pos 1 *ℤ pos x),
      parts_add (c +ℤ pos 1 *ℤ pos x) (pos (f + 0)),
      parts_add d (pos (t + x)),
    )
balance_more false c d f t x e =
    omega (
      integers,
      parts_add c (pos f),
      parts_add d (pos t),
      parts_mul (negsuc 0) (pos x),
      parts_add c (negsuc 0 *ℤ pos x),
      parts_add (c +ℤ negsuc 0 *ℤ pos x) (pos (f + x)),
      parts_add d (pos (t + 0)),
    )

module _ (f : Function) where
  -- a correction keeps the trace
  pub corrected_traced : (x : State) (r : ℕ) → Fits f → r < rows f → Shaped x → Traced f x → Traced f (corrected f r x)
  corrected_traced x r n h s was = subst (Traced f) (sym (corrected_is f r x)) (record { total = total; sum = sum })
    where
      y : Bool
      y = f.value r

      before : Bool → ℕ → ℕ
      before side = side_sum f side (count_of x.counts)

      after : Bool → ℕ → ℕ
      after side = side_sum f side (count_of (one_more r x.counts))

      more : (side : Bool) (i : ℕ) → after side i ≡ before side i + only_if (same_bool y side) (input_level (levels f r) i)
      more side i = side_sum_one_more f side x.counts i r h (omega (arith, n.rows, s.counts))

      total : after true 0 + after false 0 + x.mark ≡ x.k + 1
      total = omega (arith, more true 0, more false 0, one_side y, was.total)

      sum : (i : ℕ) → i ≤ f.places → component (corrected_by y (levels f r) x.v) i +ℤ pos (after false i) ≡ component x.s i +ℤ pos (after true i)
      sum i l =
          rw (component_corrected y (levels f r) x.v i (omega (arith, n.places, s.weights)), more true i, more false i)
          (balance_more y (component x.v i) (component x.s i) (before false i) (before true i) (input_level (levels f r) i) (was.sum i l))

  -- a state at its mark is traced: no counts, M = K and s = v
  pub marked_traced : (x : State) → x.counts ≡ zeros → x.mark ≡ x.k → x.v ≡ x.s → Traced f x
  marked_traced x c m v = record {
    total = omega (arith, none true 0, none false 0);
    sum = λ i l. ap₂ (λ (u : Vector) (m : ℕ). component u i +ℤ pos m) v (none false i ∙ sym (none true i));
  }
    where
      none : (side : Bool) (i : ℕ) → side_sum f side (count_of x.counts) i ≡ 0
      none side i = rw c (side_sum_zeros f side i)
