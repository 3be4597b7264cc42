-- Weights read place by place, as `read_vector` reads them: those still ahead, put into the array so far, give the vector's weights, and
-- one law for each way that the next weight, or b, can go. Assumes nothing.
use Rattle.std.specs.Prelude.{Ok, Err}
use mathlib.Core.Path.{◌≡◌, ◌∙◌, ap}
use mathlib.Core.Bool.{Bool}
use mathlib.Core.List.{List}
use Prim.Native.Nat.{ℕ, suc, ◌+◌, ◌-◌, ◌≤◌, ◌<◌}
use native.Mathlib.Numerals.{add-one}
use native.Mathlib.Omega.{arith}
use lib.ListN.{set, replicate}
use lib.IntN.{ℤ, pos}
use Rattle.types.specs.declared.refusal.Refusal.{Refusal}
use Rattle.types.specs.declared.vector.Vector.{Vector}
use Rattle.codec.specs.Field.{Field, Reading, field, onward}
use Rattle.codec.specs.VectorField.{signed_at, weights_at, vector_at}

-- the weights at a position are read up to a place
pub record Weights (strict : Bool) (n : ℕ) (s : List ℕ) (at : ℕ) (a : List ℤ) (here place : ℕ) : Type 0 where
  pub goes_on : weights_at strict n 0 (replicate 8 (pos 0)) s at ≡ weights_at strict (n - place) place a s here

-- no weight is read yet
pub weights_none : (strict : Bool) (n : ℕ) (s : List ℕ) (at : ℕ) → Weights strict n s at (replicate 8 (pos 0)) at 0
weights_none strict n s at =
    let all : n - 0 ≡ n = omega arith in
    record { goes_on = rw all }

-- b, and then the vector
abbrev closed : Bool → List ℕ → List ℤ → ℕ → Reading Vector
closed strict s a here = onward (signed_at strict s here) (λ b next. Ok (field (record { a = a; b = b }) next))

module _ {strict : Bool} {n : ℕ} {s : List ℕ} {at : ℕ} {a : List ℤ} {here place : ℕ} (w : Weights strict n s at a here place) where
  vector_is : {r : Reading (List ℤ)} → weights_at strict (n - place) place a s here ≡ r → vector_at strict n s at ≡ onward r (closed strict s)
  unfolding vector_at
  vector_is e = ap (λ (r : Reading (List ℤ)). onward r (closed strict s)) (w.goes_on ∙ e)

  module _ (h : place < n) where
    next_is : weights_at strict (n - place) place a s here
        ≡ onward (signed_at strict s here) (λ z next. weights_at strict (n - (place + 1)) (place + 1) (set a place z) s next)
    unfolding weights_at
    next_is = let left : n - place ≡ suc (n - suc place) = omega arith in rw (left, add-one)

    -- the next weight is refused
    pub weight_refused : {m : Refusal} → signed_at strict s here ≡ Err m → vector_at strict n s at ≡ Err m
    weight_refused {m} e = vector_is {r = Err m} (next_is ∙ rw e)

    -- the next weight is read
    pub weight_read : {f : Field ℤ} → signed_at strict s here ≡ Ok f → Weights strict n s at (set a place f.value) f.next (place + 1)
    weight_read e = record { goes_on = w.goes_on ∙ next_is ∙ rw e }

  module _ (h : n ≤ place) where
    last_is : vector_at strict n s at ≡ closed strict s a here
    unfolding weights_at
    last_is = let none : n - place ≡ 0 = omega arith in vector_is {r = Ok (field a here)} (rw none)

    -- b is refused
    pub last_refused : {m : Refusal} → signed_at strict s here ≡ Err m → vector_at strict n s at ≡ Err m
    last_refused e = last_is ∙ rw e

    -- b is read
    pub last_read : {f : Field ℤ} → signed_at strict s here ≡ Ok f
        → vector_at strict n s at ≡ Ok (field (record { a = a; b = f.value }) f.next)
    last_read e = last_is ∙ rw e
