-- Sums that the definitions of tables, gates and witnesses are made of. Definitions only; their laws stand in proofs/.
-- Assumes nothing.
use Rattle.std.specs.Prelude.{List, [], ◌∷◌, ℕ, zero, suc, ◌+◌, ℤ, pos, ◌+ℤ◌, ◌*ℤ◌}

-- f 0 + f 1 + .. + f (m − 1)
unfoldable pub sum_below : ℕ → (ℕ → ℕ) → ℕ
sum_below zero f = 0
sum_below (suc m) f = sum_below m f + f m

-- the weights, each times the level of its place
unfoldable pub weighted_sum : List ℤ → (ℕ → ℕ) → ℤ
weighted_sum [] level = pos 0
weighted_sum (w ∷ ws) level = pos (level 0) *ℤ w +ℤ weighted_sum ws (λ place. level (suc place))
