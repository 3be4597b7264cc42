-- A vector as 40 sums, from which the distance of every row is one addition. For the inside of the machine alone. Definitions only.
-- Assumes nothing.
use Rattle.std.specs.Prelude.{◌≡◌, cond, List, ℕ, ◌+◌, ◌*◌, ◌-◌, ◌≤◌, ◌<◌, ltb, length, get_or, ℤ, pos, nat_abs, ◌+ℤ◌}
use Rattle.numbers.specs.Sum.{sum_below, weighted_sum}
use Rattle.numbers.specs.Tabulate.{tabulate}
use Rattle.function.specs.Function.{level}
use Rattle.function.specs.Gate.{distance}
use Rattle.types.specs.declared.vector.Vector.{Vector}

-- place q: below 32 the distance of row q; from 32 on what the true inputs of row 32 (q − 32) add up to, which are higher ones alone
unfoldable pub place_sum : Vector → ℕ → ℤ
place_sum v q = cond (ltb q 32) (distance v.a v.b (level 2 q)) (weighted_sum v.a (level 2 (32 * (q - 32))))

-- the 40 sums of a vector
unfoldable pub vector_sums : Vector → List ℤ
vector_sums v = tabulate 40 (place_sum v)

-- the sizes of b and of the weights, added up
unfoldable pub magnitude : Vector → ℕ
magnitude v = nat_abs v.b + sum_below 8 (λ place. nat_abs (get_or v.a place (pos 0)))

-- a distance of a low row and a higher inputs' sum are together at most the limit in size
abbrev pub Narrow : ℕ → List ℤ → Type 0
Narrow limit sums = (q h : ℕ) → q < 32 → h < 8 → nat_abs (get_or sums q (pos 0)) + nat_abs (get_or sums (32 + h) (pos 0)) ≤ limit

-- of two lists of sums, the second has, `half` places behind each of the first `count` sums from a place on, that sum with a weight
-- added; at the other places it is as the first
pub record Doubled (from half count : ℕ) (weight : ℤ) (old new : List ℤ) : Type 0 where
  pub size : length new ≡ length old
  pub more : (at : ℕ) → at < count → get_or new (from + half + at) (pos 0) ≡ get_or old (from + at) (pos 0) +ℤ weight
  pub before : (q : ℕ) → q < from + half → get_or new q (pos 0) ≡ get_or old q (pos 0)
  pub behind : (q : ℕ) → from + half + count ≤ q → get_or new q (pos 0) ≡ get_or old q (pos 0)
