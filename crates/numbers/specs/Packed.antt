-- Numbers by their bits. Definitions only; their laws stand in proofs/. Assumes nothing.
use Rattle.std.specs.Prelude.{Bool, true, false, ℕ, zero, suc, ◌+◌, ◌*◌, ◌/◌, ◌%◌, ◌^◌, eqb}

-- the bit of a value: 1 where it is true
abbrev pub bit_of : Bool → ℕ
bit_of true = 1
bit_of false = 0

-- the number whose bit j is f j for each j below m
unfoldable pub packed : ℕ → (ℕ → Bool) → ℕ
packed zero f = 0
packed (suc m) f = packed m (λ j. f (suc j)) * 2 + bit_of (f 0)

-- bit j of a number
abbrev pub bit_in : ℕ → ℕ → Bool
bit_in x j = eqb (x / 2 ^ j % 2) 1
