-- Laws of powers of two: the one that code makes by a shift; and of `highest`, the one that a mark is set at, what it is, that it is the only
-- one, and how it goes on from a number to the next. Assumes nothing.
use mathlib.Core.Path.{◌≡◌, refl, sym, ◌∙◌, ap}
use mathlib.Core.Bool.{false}
use Prim.Native.Nat.{ℕ, zero, suc, ◌+◌, ◌*◌, ◌-◌, ◌%◌, ◌^◌, ◌≤◌, ◌<◌}
use native.Mathlib.Nat.{one-mul, mod-eq_of_lt}
use native.Mathlib.Decide.{dec_le}
use native.Mathlib.Omega.{arith}
use lib.Dec.{eqb}
use lib.Pow.{pow-lt, pow_mono}
use lib.Count.{count_leading_zeros, leading_top}
use borrow.Author.Tests.{eqb-false, ne_eqb}
use Rattle.numbers.specs.Power.{highest}

-- 1 shifted by fewer places than a word has loses nothing
pub one_shifted : (k : ℕ) → k < 64 → 1 * 2 ^ k % 2 ^ 64 ≡ 2 ^ k
one_shifted k h = rw one-mul (mod-eq_of_lt (pow-lt h))

-- p is the highest power of two that is not above k
pub record IsHighest (k p : ℕ) : Type 0 where
  pub exponent : ℕ
  pub power : p ≡ 2 ^ exponent
  pub low : p ≤ k
  pub high : k < 2 * p

-- of 0 it is 0
pub highest_zero : highest 0 ≡ 0
unfolding highest
highest_zero = refl

-- of 1 it is 1
pub highest_one : highest 1 ≡ 1
unfolding highest count_leading_zeros
highest_one = refl

-- of any other number it is found from the leading zeros
pub highest_shift : (k : ℕ) → 0 < k → highest k ≡ 2 ^ (31 - count_leading_zeros 32 k)
unfolding highest
highest_shift k h = rw (ne_eqb k 0 (omega arith))

-- it is the highest power of two that is not above the number
pub highest_top : (k : ℕ) → 0 < k → k < 2 ^ 32 → IsHighest k (highest k)
highest_top k h l =
    let t = leading_top 32 k h l in
    let place : 31 - count_leading_zeros 32 k ≡ t.0 = omega arith in
    let is : highest k ≡ 2 ^ t.0 = highest_shift k h ∙ ap (λ (x : ℕ). 2 ^ x) place in
    record { exponent = t.0; power = is; low = omega arith; high = omega arith }

-- there is one such power
pub highest_unique : (k p q : ℕ) → IsHighest k p → IsHighest k q → p ≡ q
highest_unique k p q s t =
    let equal = same (dec_le (suc s.exponent) t.exponent) (dec_le (suc t.exponent) s.exponent) in
    s.power ∙ ap (λ (x : ℕ). 2 ^ x) equal ∙ sym t.power
  where
    same : Dec (suc s.exponent ≤ t.exponent) → Dec (suc t.exponent ≤ s.exponent) → s.exponent ≡ t.exponent
    same (yes h) d = absurd (omega (arith, pow_mono h))
    same (no f) (yes h) = absurd (omega (arith, pow_mono h))
    same (no f) (no g) = omega arith

-- it is not above the number
pub highest_le : (k : ℕ) → k < 2 ^ 32 → highest k ≤ k
highest_le zero l = omega (arith, highest_zero)
highest_le (suc k) l = (highest_top (suc k) (omega arith) l).low

-- the number before one that is no power of two has the same
pub highest_suc : (k : ℕ) → k + 1 < 2 ^ 32 → eqb (highest (k + 1)) (k + 1) ≡ false → highest (k + 1) ≡ highest k
highest_suc zero l e = absurd (eqb-false (highest 1) 1 e highest_one)
highest_suc (suc k) l e =
    let t = highest_top (suc k + 1) (omega arith) l in
    let below : highest (suc k + 1) ≤ suc k = less t.low (eqb-false (highest (suc k + 1)) (suc k + 1) e) in
    highest_unique (suc k) (highest (suc k + 1)) (highest (suc k))
    (record { exponent = t.exponent; power = t.power; low = below; high = omega (arith, t.high) })
    (highest_top (suc k) (omega arith) (omega arith))
  where
    less : {p q : ℕ} → p ≤ q + 1 → (p ≡ q + 1 → ⊥) → p ≤ q
    less h n = omega arith
