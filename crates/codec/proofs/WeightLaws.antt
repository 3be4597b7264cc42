-- The bytes of weights by places, as a loop over the places writes them: none, one weight more, and at most three for each; and those of
-- a vector. Assumes nothing.
use mathlib.Core.Path.{◌≡◌, refl}
use mathlib.Core.List.{List, [], ◌++◌, append-nil, append_assoc}
use Prim.Native.Nat.{ℕ, zero, suc, ◌+◌, ◌*◌, ◌≤◌}
use native.Mathlib.Nat.{add-zero, zero-add, add-suc, suc-add}
use lib.ListN.{length, get_or}
use lib.IntN.{ℤ, pos}
use Rattle.types.specs.declared.vector.Vector.{Vector}
use Rattle.codec.specs.Number.{number_bytes, signed_code}
use Rattle.codec.specs.VectorField.{weight_bytes, vector_bytes}
use Rattle.codec.proofs.NumberLaws.{number_length}
use Rattle.codec.proofs.WrittenLaws.{turns_most}

module _ (a : List ℤ) where
  -- the bytes of the weights below a place
  abbrev pub weights : ℕ → List ℕ
  weights place = weight_bytes a place 0

  -- the bytes of the weight at a place
  abbrev pub weight_at : ℕ → List ℕ
  weight_at place = number_bytes (signed_code (get_or a place (pos 0)))

  -- no weights have no bytes
  pub weights_zero : (place : ℕ) → weight_bytes a zero place ≡ []
  unfolding weight_bytes
  weights_zero place = refl

  -- the first weight, then the others
  pub weights_suc : (m place : ℕ) → weight_bytes a (suc m) place ≡ weight_at place ++ weight_bytes a m (suc place)
  unfolding weight_bytes
  weights_suc m place = refl

  -- so many weights, then so many more
  pub weights_add : (k m place : ℕ) → weight_bytes a (k + m) place ≡ weight_bytes a k place ++ weight_bytes a m (place + k)
  weights_add zero m place = rw (zero-add, weights_zero, add-zero)
  weights_add (suc k) m place = rw (suc-add, weights_suc (k + m) place, weights_add k m (suc place), weights_suc k place, append_assoc, add-suc, suc-add)

  -- one weight more comes last
  pub weights_more : (m : ℕ) → weights (m + 1) ≡ weights m ++ weight_at m
  weights_more m = rw (weights_add m 1 0, zero-add, weights_suc 0 m, weights_zero, append-nil)

  -- a weight takes at most three bytes
  pub weights_most : (m : ℕ) → length (weights m) ≤ 3 * m
  weights_most = turns_most weights weight_at weights_more 3 (weights_zero 0) (λ m. (number_length (signed_code (get_or a m (pos 0)))).1)

-- a vector is written as its weights and then b
pub vector_parts : (n : ℕ) (v : Vector) → vector_bytes n v ≡ weights v.a n ++ number_bytes (signed_code v.b)
unfolding vector_bytes
vector_parts n v = refl
