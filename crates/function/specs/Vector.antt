-- The vector v = (a1..an, b) of a job: its correction by a row, and when two are equal (document 01, "The stepping machine"; the field's
-- term is the weight vector of a perceptron). Definitions only. Assumes nothing.
use Rattle.std.specs.Prelude.{Bool, true, false, ◌&&◌, List, [], ◌∷◌, ℕ, zero, suc, get_or, replicate, ℤ, pos, negsuc, neg_ℤ, ◌+ℤ◌, ◌-ℤ◌, ◌*ℤ◌}
use Rattle.numbers.specs.Tests.{same_z}
use Rattle.types.specs.declared.vector.Vector.{Vector}

-- 1 on a true row, −1 on a false row
abbrev pub sign : Bool → ℤ
sign true = pos 1
sign false = negsuc 0

-- z times the level of each place is added
unfoldable pub add_levels : ℤ → (ℕ → ℕ) → List ℤ → List ℤ
add_levels z level [] = []
add_levels z level (x ∷ xs) = (x +ℤ pos (level 0) *ℤ z) ∷ add_levels z (λ place. level (suc place)) xs

-- step 1, by a row's value and its levels: the level of each input is added to its a (of a table: 1 to the a of the true inputs), and 1 is
-- taken from b; on a false row the reverse
unfoldable pub corrected_by : Bool → (ℕ → ℕ) → Vector → Vector
corrected_by y level v = record { a = add_levels (sign y) level v.a; b = v.b -ℤ sign y }

unfoldable pub same_list : List ℤ → List ℤ → Bool
same_list [] [] = true
same_list [] (y ∷ ys) = false
same_list (x ∷ xs) [] = false
same_list (x ∷ xs) (y ∷ ys) = same_z x y && same_list xs ys

-- v = s
unfoldable pub same_vector : Vector → Vector → Bool
same_vector v s = same_z v.b s.b && same_list v.a s.a

abbrev pub zero_vector : Vector
zero_vector = record { a = replicate 8 (pos 0); b = pos 0 }

-- component i of a vector: the a of input i, and for input 0 the negation of b. A correction by a true row adds to each component the level
-- of its input
abbrev pub component : Vector → ℕ → ℤ
component v zero = neg_ℤ v.b
component v (suc place) = get_or v.a place (pos 0)
