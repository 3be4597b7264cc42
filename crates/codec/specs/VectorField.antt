-- The n weights and T of a gate, and v and s of a job: a1..an, b, signed (document 01, "Records"). Definitions only. Assumes nothing.
use Rattle.types.specs.declared.refusal.Refusal.TheVariants as Refusal'
use Rattle.std.specs.Prelude.{Bool, not, ◌&&◌, List, [], ◌∷◌, ◌++◌, ℕ, zero, suc, get_or, set, replicate, ℤ, pos, Ok}
use Rattle.table.specs.Gate.{weight_limit, within}
use Rattle.refusal.specs.Refusal.{rule, checked}
use Rattle.types.specs.declared.vector.Vector.{Vector}
use Rattle.codec.specs.Field.{Reading, field, onward}
use Rattle.codec.specs.Number.{number_bytes, number_at, signed_code, signed_of}

-- so many weights from a place on
unfoldable pub weight_bytes : List ℤ → ℕ → ℕ → List ℕ
weight_bytes a zero place = []
weight_bytes a (suc left) place = number_bytes (signed_code (get_or a place (pos 0))) ++ weight_bytes a left (suc place)

-- a1..an, b
unfoldable pub vector_bytes : ℕ → Vector → List ℕ
unfolding weight_bytes
vector_bytes n v = weight_bytes v.a n 0 ++ number_bytes (signed_code v.b)

-- a signed number. 7: beyond its range, where ranges are refused at once (kind 2, and not kinds 4 and 6)
abbrev pub signed_at : Bool → List ℕ → ℕ → Reading ℤ
signed_at strict s at =
    onward (number_at s at) (λ x next. checked (rule Refusal'.Gate (strict && not (within weight_limit (signed_of x))) ∷ []) (Ok (field (signed_of x) next)))

-- so many weights, put in their places from one on
unfoldable pub weights_at : Bool → (left place : ℕ) → List ℤ → List ℕ → ℕ → Reading (List ℤ)
weights_at strict zero place a s at = Ok (field a at)
weights_at strict (suc left) place a s at = onward (signed_at strict s at) (λ z next. weights_at strict left (suc place) (set a place z) s next)

-- n weights and b; the places past n hold 0
unfoldable pub vector_at : Bool → ℕ → List ℕ → ℕ → Reading Vector
unfolding weights_at
vector_at strict n s at =
    onward (weights_at strict n 0 (replicate 8 (pos 0)) s at) (λ a last. onward (signed_at strict s last) (λ b next. Ok (field (record { a = a; b = b }) next)))
