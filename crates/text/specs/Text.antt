-- Numbers and fields as text (document 01, "Kinds, Chow, report"). Definitions only. Assumes nothing.
use Rattle.std.specs.Prelude.{cond, List, [], ◌∷◌, ◌++◌, ℕ, zero, suc, ◌+◌, ◌/◌, ◌%◌, ltb, ℤ, pos, negsuc}

-- the last digits of a number in base ten, at most so many, without leading zeros
unfoldable pub digits : (most x : ℕ) → List ℕ
digits zero x = []
digits (suc most) x = let higher = digits most (x / 10) in cond (ltb x 10) ((48 + x) ∷ []) (higher ++ ((48 + x % 10) ∷ []))

-- a number in base ten: 20 digits hold every number of 64 bits
unfoldable pub decimal : ℕ → List ℕ
unfolding digits
decimal x = digits 20 x

-- with a minus sign when negative
abbrev pub signed_text : ℤ → List ℕ
signed_text (pos n) = decimal n
signed_text (negsuc n) = 45 ∷ decimal (suc n)

-- one space parts fields
abbrev pub spaced : List ℕ → List ℕ
spaced text = 32 ∷ text

-- a line feed ends each line
abbrev pub line_feed : List ℕ
line_feed = 10 ∷ []
