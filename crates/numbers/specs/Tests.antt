-- Tests that compute, of numbers and of lists, which the other definitions are made of. Definitions only; their laws stand in proofs/.
-- Assumes nothing.
use Rattle.std.specs.Prelude.{Bool, true, false, not, cond, ◌&&◌, List, [], ◌∷◌, ℕ, zero, suc, leb, ℤ, Option, Some, None}
use Rattle.std.specs.Int.Signed.{le_z}

-- whether two tests agree
abbrev pub same_bool : Bool → Bool → Bool
same_bool a b = cond a b (not b)

-- whether two integers are equal
abbrev pub same_z : ℤ → ℤ → Bool
same_z x y = le_z x y && le_z y x

-- whether each number of a list is at most the limit
unfoldable pub all_at_most : ℕ → List ℕ → Bool
all_at_most limit [] = true
all_at_most limit (x ∷ xs) = leb x limit && all_at_most limit xs

-- whether the test passes at each number below m
unfoldable pub all_below : ℕ → (ℕ → Bool) → Bool
all_below zero test = true
all_below (suc m) test = all_below m test && test m

-- the lowest of the m numbers from r on that passes the test
unfoldable pub first_from : (ℕ → Bool) → ℕ → ℕ → Option ℕ
first_from test zero r = None
first_from test (suc m) r = let later = first_from test m (suc r) in cond (test r) (Some r) later
