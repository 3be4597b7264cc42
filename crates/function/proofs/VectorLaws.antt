-- Laws of vectors: the test that two are equal, and what a correction by a row's levels adds at each place. Assumes nothing.
use mathlib.Core.Path.{◌≡◌, refl, ◌∙◌, ap, ap₂}
use mathlib.Core.Logic.{◌↔◌}
use mathlib.Core.Bool.{Bool, true, false}
use mathlib.Core.List.{List, [], ◌∷◌}
use Prim.Native.Nat.{ℕ, zero, suc, ◌≤◌, ◌<◌}
use native.Mathlib.Omega.{arith}
use lib.ListN.{length, get_or}
use lib.IntN.{ℤ, pos, negsuc, neg_ℤ, ◌+ℤ◌, ◌-ℤ◌, ◌*ℤ◌, *ℤ_comm}
use Rattle.numbers.specs.Tests.{same_z}
use Rattle.numbers.proofs.Int.{integers, parts_sub, parts_neg, parts_add}
use Rattle.numbers.proofs.TestLaws.{and_left, and_right, and_both, no_true, same_z_correct}
use Rattle.types.specs.declared.vector.Vector.{Vector}
use Rattle.function.specs.Witness.{input_level}
use Rattle.function.specs.Vector.{sign, add_levels, corrected_by, same_list, same_vector, component}

-- ---- equal vectors

same_list_eq : (xs ys : List ℤ) → same_list xs ys ≡ true → xs ≡ ys
unfolding same_list
same_list_eq [] [] e = refl
same_list_eq [] (y ∷ ys) e = absurd (no_true e)
same_list_eq (x ∷ xs) [] e = absurd (no_true e)
same_list_eq (x ∷ xs) (y ∷ ys) e =
    ap₂ ◌∷◌ ((same_z_correct x y).0 (and_left (same_z x y) (same_list xs ys) e)) (same_list_eq xs ys (and_right (same_z x y) (same_list xs ys) e))

same_list_refl : (xs : List ℤ) → same_list xs xs ≡ true
unfolding same_list
same_list_refl [] = refl
same_list_refl (x ∷ xs) = and_both ((same_z_correct x x).1 refl) (same_list_refl xs)

-- the test of two lists passes exactly if they are equal
pub same_list_correct : (xs ys : List ℤ) → same_list xs ys ≡ true ↔ xs ≡ ys
same_list_correct xs ys = (same_list_eq xs ys, λ e. rw (← e) (same_list_refl xs))

-- vectors of equal parts are equal
pub vector_eq : (v s : Vector) → v.a ≡ s.a → v.b ≡ s.b → v ≡ s
vector_eq v s p q = λ i. record { a = p i; b = q i }

-- the test of two vectors passes exactly if they are equal
pub same_vector_correct : (v s : Vector) → same_vector v s ≡ true ↔ v ≡ s
unfolding same_vector
same_vector_correct v s =
    let weights = same_list_correct v.a s.a in
    let threshold = same_z_correct v.b s.b in (
      λ e. vector_eq v s (weights.0 (and_right (same_z v.b s.b) _ e)) (threshold.0 (and_left (same_z v.b s.b) _ e)),
      λ e. and_both (threshold.1 (ap (λ (u : Vector). u.b) e)) (weights.1 (ap (λ (u : Vector). u.a) e)),
    )

-- ---- what a correction adds

module _ (z : ℤ) where
  -- there are as many places as before
  pub length_add_levels : (l : ℕ → ℕ) (xs : List ℤ) → length (add_levels z l xs) ≡ length xs
  unfolding add_levels
  length_add_levels l [] = refl
  length_add_levels l (x ∷ xs) = ap suc (length_add_levels (λ place. l (suc place)) xs)

  -- each place is added z times its level
  pub get_d_add_levels : (l : ℕ → ℕ) (xs : List ℤ) (place : ℕ) → place < length xs
      → get_or (add_levels z l xs) place (pos 0) ≡ get_or xs place (pos 0) +ℤ pos (l place) *ℤ z
  unfolding add_levels
  get_d_add_levels l [] place h = absurd (omega arith)
  get_d_add_levels l (x ∷ xs) zero h = refl
  get_d_add_levels l (x ∷ xs) (suc place) h = get_d_add_levels (λ p. l (suc p)) xs place (omega arith)

-- what a correction makes of the weights, and of the threshold
pub corrected_weights : (y : Bool) (l : ℕ → ℕ) (v : Vector) → (corrected_by y l v).a ≡ add_levels (sign y) l v.a
unfolding corrected_by
corrected_weights y l v = refl

pub corrected_threshold : (y : Bool) (l : ℕ → ℕ) (v : Vector) → (corrected_by y l v).b ≡ v.b -ℤ sign y
unfolding corrected_by
corrected_threshold y l v = refl

-- there are as many weights as before
pub length_corrected : (y : Bool) (l : ℕ → ℕ) (v : Vector) → length (corrected_by y l v).a ≡ length v.a
length_corrected y l v = ap length (corrected_weights y l v) ∙ length_add_levels (sign y) l v.a

threshold_less : (b : ℤ) (y : Bool) → neg_ℤ (b -ℤ sign y) ≡ neg_ℤ b +ℤ sign y *ℤ pos 1
threshold_less b true = omega (integers, parts_neg (b -ℤ pos 1), parts_sub b (pos 1), parts_neg b, parts_add (neg_ℤ b) (pos 1))
threshold_less b false = omega (integers, parts_neg (b -ℤ negsuc 0), parts_sub b (negsuc 0), parts_neg b, parts_add (neg_ℤ b) (negsuc 0))

-- a component is added the row's sign times the level of its input
pub component_corrected : (y : Bool) (l : ℕ → ℕ) (v : Vector) (i : ℕ) → i ≤ length v.a
    → component (corrected_by y l v) i ≡ component v i +ℤ sign y *ℤ pos (input_level l i)
component_corrected y l v zero h = ap neg_ℤ (corrected_threshold y l v) ∙ threshold_less v.b y
component_corrected y l v (suc place) h =
    ap (λ (l : List ℤ). get_or l place (pos 0)) (corrected_weights y l v)
    ∙ get_d_add_levels (sign y) l v.a place h
    ∙ ap (λ (x : ℤ). get_or v.a place (pos 0) +ℤ x) (*ℤ_comm (pos (l place)) (sign y))
