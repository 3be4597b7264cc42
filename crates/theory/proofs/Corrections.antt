-- The correction of a row as a vector, by the row's value and its levels, of any top level: its product with a vector is the row's margin,
-- and its squares add up to at most n·top² + 1. Component 0 is the negation of b, as in `component`. Assumes nothing.
use mathlib.Core.Path.{◌≡◌, refl, sym, ◌∙◌, ap, ap₂}
use mathlib.Core.Bool.{Bool, true, false}
use mathlib.Core.List.{List, [], ◌∷◌}
use Prim.Native.Nat.{ℕ, zero, suc, ◌+◌, ◌*◌, ◌≤◌}
use native.Mathlib.Nat.{mul-le-mul, mul-le-mul_right}
use native.Mathlib.Decide.{dec_le}
use native.Mathlib.Omega.{arith}
use lib.ListN.{length, get_or}
use lib.IntN.{ℤ, pos, negsuc, neg_ℤ, ◌+ℤ◌, ◌-ℤ◌, ◌*ℤ◌, +ℤ_comm, neg_ℤ-neg_ℤ}
use lib.Signed.{◌≤ℤ◌}
use Rattle.numbers.specs.Sum.{sum_below, weighted_sum}
use Rattle.numbers.proofs.Int.{integers}
use Rattle.numbers.proofs.Ring.{ring, *ℤ_negl, *ℤ_negr, *ℤ_idl, *ℤ_minusl}
use Rattle.numbers.proofs.SumLaws.{sum_z_ext, sum_z_pos, sum_below_zero, sum_below_suc, sum_below_most, weighted_sum_nil, weighted_sum_cons}
use Rattle.types.specs.declared.vector.Vector.{Vector}
use Rattle.function.specs.Vector.{sign, component}
use Rattle.function.specs.Failing.{margin}
use Rattle.theory.specs.Bound.{square, sum_squares, squares}
use Rattle.theory.proofs.Perceptron.{dot, dot_front, dot_comm, dot_zero, dot_mul}

-- what a correction by a row of value y and levels l adds to each component
abbrev pub correction : Bool → (ℕ → ℕ) → ℕ → ℤ
correction y l zero = sign y *ℤ pos 1
correction y l (suc place) = sign y *ℤ pos (l place)

-- ---- lists as vectors

-- the entries of a list as a vector; past its end they are 0
abbrev pub entries : List ℤ → ℕ → ℤ
entries xs i = get_or xs i (pos 0)

-- a weighted sum is the product of levels and weights
pub weighted_sum_dot : (p : ℕ) (ws : List ℤ) (l : ℕ → ℕ) → length ws ≤ p → dot p (λ i. pos (l i)) (entries ws) ≡ weighted_sum ws l
weighted_sum_dot p [] l h = dot_comm p (λ i. pos (l i)) (entries []) ∙ dot_zero p (entries []) (λ i. pos (l i)) (λ i k. refl) ∙ sym (weighted_sum_nil l)
weighted_sum_dot zero (w ∷ ws) l h = absurd (omega arith)
weighted_sum_dot (suc p) (w ∷ ws) l h =
    dot_front p (λ i. pos (l i)) (entries (w ∷ ws))
    ∙ ap (λ (x : ℤ). pos (l 0) *ℤ w +ℤ x) (weighted_sum_dot p ws (λ i. l (suc i)) (omega arith))
    ∙ sym (weighted_sum_cons w ws l)

-- a square of an integer is one of its size
square_pos : (x : ℤ) → x *ℤ x ≡ pos (square x)
square_pos (pos n) = refl
square_pos (negsuc n) = refl

square_neg : (x : ℤ) → neg_ℤ x *ℤ neg_ℤ x ≡ pos (square x)
square_neg x = simp (*ℤ_negl, *ℤ_negr, neg_ℤ-neg_ℤ) (square_pos x)

-- a list's squares are its product with itself
pub sum_squares_dot : (p : ℕ) (xs : List ℤ) → length xs ≤ p → dot p (entries xs) (entries xs) ≡ pos (sum_squares xs)
unfolding sum_squares
sum_squares_dot p [] h = dot_zero p (entries []) (entries []) (λ i k. refl)
sum_squares_dot zero (x ∷ xs) h = absurd (omega arith)
sum_squares_dot (suc p) (x ∷ xs) h =
    dot_front p (entries (x ∷ xs)) (entries (x ∷ xs)) ∙ ap₂ ◌+ℤ◌ (square_pos x) (sum_squares_dot p xs (omega arith))

-- a vector's squares are its product with itself
pub squares_dot : (p : ℕ) (v : Vector) → length v.a ≤ p → dot (suc p) (component v) (component v) ≡ pos (squares v)
unfolding squares
squares_dot p v h =
    dot_front p (component v) (component v)
    ∙ ap₂ ◌+ℤ◌ (square_neg v.b) (sum_squares_dot p v.a h)
    ∙ +ℤ_comm (pos (square v.b)) (pos (sum_squares v.a))

-- ---- the correction

margin_sign : (y : Bool) (d : ℤ) → sign y *ℤ d ≡ margin y d
margin_sign true d = *ℤ_idl d
margin_sign false d = *ℤ_minusl d

signed_difference : (z s b : ℤ) → z *ℤ pos 1 *ℤ neg_ℤ b +ℤ z *ℤ s ≡ z *ℤ (s -ℤ b)
signed_difference z s b = simp ring

-- the product of a correction and a vector is the row's margin
pub correction_dot : (p : ℕ) (y : Bool) (l : ℕ → ℕ) (v : Vector) → length v.a ≤ p
    → dot (suc p) (correction y l) (component v) ≡ margin y (weighted_sum v.a l -ℤ v.b)
correction_dot p y l v h =
    dot_front p (correction y l) (component v)
    ∙ ap (λ (x : ℤ). sign y *ℤ pos 1 *ℤ neg_ℤ v.b +ℤ x)
    (dot_mul p (sign y) (λ i. pos (l i)) (entries v.a) ∙ ap (λ (x : ℤ). sign y *ℤ x) (weighted_sum_dot p v.a l h))
    ∙ signed_difference (sign y) (weighted_sum v.a l) v.b
    ∙ margin_sign y (weighted_sum v.a l -ℤ v.b)

level_square : (y : Bool) (x : ℕ) → sign y *ℤ pos x *ℤ (sign y *ℤ pos x) ≡ pos (x * x)
level_square true x = ap pos (omega arith)
level_square false x = square_neg (pos (1 * x)) ∙ ap pos (omega arith)

levels_dot : (p : ℕ) (y : Bool) (l : ℕ → ℕ)
    → dot p (λ i. sign y *ℤ pos (l i)) (λ i. sign y *ℤ pos (l i)) ≡ pos (sum_below p (λ i. l i * l i))
unfolding dot
levels_dot p y l =
    sum_z_ext p (λ i. sign y *ℤ pos (l i) *ℤ (sign y *ℤ pos (l i))) (λ i. pos (l i * l i)) (λ i h. level_square y (l i))
    ∙ sum_z_pos p (λ i. l i * l i)

-- the squares of a correction are those of the levels, and 1
pub correction_squares : (p : ℕ) (y : Bool) (l : ℕ → ℕ) → dot (suc p) (correction y l) (correction y l) ≡ pos (1 + sum_below p (λ i. l i * l i))
correction_squares p y l = dot_front p (correction y l) (correction y l) ∙ ap₂ ◌+ℤ◌ (level_square y 1) (levels_dot p y l)

module _ (top n : ℕ) (l : ℕ → ℕ) (low : (place : ℕ) → l place ≤ top) (past : (place : ℕ) → n ≤ place → l place ≡ 0) where
  levels_by : (p : ℕ) → sum_below p (λ i. l i * l i) ≤ n * (top * top) → Dec (n ≤ p) → sum_below (suc p) (λ i. l i * l i) ≤ n * (top * top)
  levels_by p before (yes k) = omega (arith, sum_below_suc p (λ i. l i * l i), ap₂ ◌*◌ (past p k) (past p k))
  levels_by p before (no f) =
      let below : suc p ≤ n = omega arith in
      omega (arith, sum_below_most (suc p) (top * top) (λ i. l i * l i) (λ i k. mul-le-mul (low i) (low i)), mul-le-mul_right (top * top) below)

  -- levels of at most `top`, and 0 from n on, have squares of at most n·top²
  pub levels_squares : (p : ℕ) → sum_below p (λ i. l i * l i) ≤ n * (top * top)
  levels_squares zero = omega (arith, sum_below_zero (λ i. l i * l i))
  levels_squares (suc p) = levels_by p (levels_squares p) (dec_le n p)

  -- so a correction has squares of at most n·top² + 1
  pub correction_short : (p : ℕ) (y : Bool) → dot (suc p) (correction y l) (correction y l) ≤ℤ pos (suc (n * (top * top)))
  correction_short p y = rw (correction_squares p y l) (omega (integers, levels_squares p))
