-- A gate: its distance and its value on a row, when it realises a function, the test of it, and the range of its numbers (document 01,
-- "Table, gate, witness"). `Realises` is of weights and T of any size; `realises_correct` of proofs/ joins `Realises` and `realises`.
-- Definitions only. Assumes nothing.
use Rattle.std.specs.Prelude.{◌≡◌, Bool, true, not, cond, ◌&&◌, ◌||◌, List, ℕ, ◌<◌, ltb, get_or, ℤ, pos, neg_ℤ, ◌-ℤ◌}
use Rattle.std.specs.Int.Signed.{le_z}
use Rattle.numbers.specs.Sum.{weighted_sum}
use Rattle.numbers.specs.Tests.{same_bool, all_below}
use Rattle.function.specs.Function.{Function, levels, rows}

-- the distance d of a row, by its levels: the sum of the weights, each times the level of its input, less T. Of a table it is the sum of the
-- weights of the true inputs, less T
unfoldable pub distance : List ℤ → ℤ → (ℕ → ℕ) → ℤ
unfolding weighted_sum
distance ws th level = weighted_sum ws level -ℤ th

-- the gate rule (source document 000, equation 1): true on a row when the sum is at least T
abbrev pub gate_true : List ℤ → ℤ → (ℕ → ℕ) → Bool
gate_true ws th level = le_z (pos 0) (distance ws th level)

-- integer weights and a T, of any size, that agree with the function on every row that is cared for
abbrev pub Realises : List ℤ → ℤ → Function → Type 0
Realises ws th f = (r : ℕ) → r < rows f → f.cared r ≡ true → gate_true ws th (levels f r) ≡ f.value r

-- the test of it: a row that is not cared for is passed
unfoldable pub realises : List ℤ → ℤ → Function → Bool
unfolding all_below distance
realises ws th f = all_below (rows f) (λ r. not (f.cared r) || same_bool (gate_true ws th (levels f r)) (f.value r))

-- ---- the range of its numbers

-- weights and T lie within ±1,000,000
abbrev pub weight_limit : ℕ
weight_limit = 1000000

-- z lies within ±limit
abbrev pub within : ℕ → ℤ → Bool
within limit z = le_z (neg_ℤ (pos limit)) z && le_z z (pos limit)

-- the most that a place may hold where n places have a limit: places past n hold 0
abbrev pub place_limit : (limit n place : ℕ) → ℕ
place_limit limit n place = cond (ltb place n) limit 0

-- the weights of n inputs and T lie within ±limit, and the places past n hold 0
unfoldable pub in_range : (limit n : ℕ) → List ℤ → ℤ → Bool
unfolding all_below
in_range limit n ws th = within limit th && all_below 8 (λ place. within (place_limit limit n place) (get_or ws place (pos 0)))
