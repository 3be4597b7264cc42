-- The list of a function's values, and lists that hold them. Definitions only. Assumes nothing.
use Rattle.std.specs.Prelude.{◌≡◌, List, [], ◌∷◌, ◌++◌, ℕ, zero, suc, ◌<◌, get_or, ℤ, pos}

-- f 0, f 1, .., f (m − 1)
unfoldable pub tabulate : {A : Type 0} → ℕ → (ℕ → A) → List A
tabulate zero f = []
tabulate (suc m) f = tabulate m f ++ (f m ∷ [])

-- a list of integers holds the values of f below m
abbrev pub Holds : (ℕ → ℤ) → ℕ → List ℤ → Type 0
Holds f m list = (r : ℕ) → r < m → get_or list r (pos 0) ≡ f r
