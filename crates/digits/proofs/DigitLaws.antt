-- Hex digits as the bits of a byte, two or one. Assumes nothing.
use mathlib.Core.Path.{◌≡◌, sym, ◌∙◌, ap, ap₂}
use mathlib.Core.Bool.{true}
use mathlib.Core.List.{List}
use Prim.Native.Nat.{ℕ, zero, suc, ◌+◌, ◌-◌, ◌*◌, ◌/◌, ◌%◌, ◌^◌, ◌≤◌, ◌<◌}
use native.Mathlib.Decide.{dec_le}
use native.Mathlib.Omega.{arith}
use lib.Dec.{eqb}
use lib.ListN.{length, get_or}
use lib.Pow.{pow_mono, shr-shr}
use borrow.Author.Tests.{ltb-true}
use Rattle.numbers.specs.Packed.{bit_in}
use Rattle.numbers.specs.Tests.{all_below}
use Rattle.numbers.proofs.TestLaws.{all_below_at}
use Rattle.table.specs.Table.{rows_of}
use Rattle.digits.specs.Digits.{digit_value, digit_at, digit_row, is_digit}

-- the four lower bits are the low digit's, the others the high digit's
pub low_digit : (high low j : ℕ) → low < 16 → j < 4 → (16 * high + low) / 2 ^ j % 2 ≡ low / 2 ^ j % 2
low_digit high low zero h k = omega arith
low_digit high low (suc zero) h k = omega arith
low_digit high low (suc (suc zero)) h k = omega arith
low_digit high low (suc (suc (suc zero))) h k = omega arith
low_digit high low (suc (suc (suc (suc j)))) h k = absurd (omega arith)

pub high_digit : (high low j : ℕ) → low < 16 → (16 * high + low) / 2 ^ (4 + j) % 2 ≡ high / 2 ^ j % 2
high_digit high low j h =
    let top : (16 * high + low) / 16 ≡ high = omega arith in
    ap (λ (x : ℕ). x % 2) (sym (shr-shr (16 * high + low) 4 j) ∙ ap (λ (x : ℕ). x / 2 ^ j) top)

-- a digit has four rows of a byte: the lower of two digits the lower four
module _ (digits : List ℕ) (at j : ℕ) (h : j < 4) where
  pub low_row : digit_row digits (8 * at + j) ≡ bit_in (digit_at digits (2 * at)) j
  low_row =
      let digit : (8 * at + j) / 4 ≡ 2 * at = omega arith in
      let bit : (8 * at + j) % 4 ≡ j = omega arith in
      ap₂ (λ (d b : ℕ). bit_in (digit_at digits d) b) digit bit

  pub high_row : digit_row digits (8 * at + (4 + j)) ≡ bit_in (digit_at digits (2 * at + 1)) j
  high_row =
      let digit : (8 * at + (4 + j)) / 4 ≡ 2 * at + 1 = omega arith in
      let bit : (8 * at + (4 + j)) % 4 ≡ j = omega arith in
      ap₂ (λ (d b : ℕ). bit_in (digit_at digits d) b) digit bit

-- so the bits of two digits are eight rows
pub two_digits : (digits : List ℕ) (at high low : ℕ) → low < 16 → low ≡ digit_at digits (2 * at) → high ≡ digit_at digits (2 * at + 1)
    → (j : ℕ) → j < 8 → bit_in (16 * high + low) j ≡ digit_row digits (8 * at + j)
two_digits digits at high low small l h j k = by (dec_le 4 j)
  where
    by : Dec (4 ≤ j) → bit_in (16 * high + low) j ≡ digit_row digits (8 * at + j)
    by (no below) =
        ap (λ (x : ℕ). eqb x 1) (low_digit high low j small (omega arith))
        ∙ ap (λ (d : ℕ). bit_in d j) l
        ∙ sym (low_row digits at j (omega arith))
    by (yes above) =
        let i : ℕ = j - 4 in
        let same : j ≡ 4 + i = omega arith in
        ap (bit_in (16 * high + low)) same
        ∙ ap (λ (x : ℕ). eqb x 1) (high_digit high low i small)
        ∙ ap (λ (d : ℕ). bit_in d i) h
        ∙ sym (high_row digits at i (omega arith))
        ∙ ap (λ (x : ℕ). digit_row digits (8 * at + x)) (sym same)

-- and those of one digit at most four
pub one_digit : (digits : List ℕ) (n at low : ℕ) → n < 3 → low ≡ digit_at digits (2 * at)
    → (j : ℕ) → j < 8 → 8 * at + j < rows_of n → bit_in low j ≡ digit_row digits (8 * at + j)
one_digit digits n at low few l j k inside =
    ap (λ (d : ℕ). bit_in d j) l ∙ sym (low_row digits at j (omega (arith, pow_mono {i = n} {j = 2} (omega arith))))

-- a character that is a digit has a value below 16
pub digit_small : (digits : List ℕ) (i : ℕ) → all_below (length digits) (is_digit digits) ≡ true → i < length digits → digit_value (get_or digits i 0) < 16
digit_small digits i all h = ltb-true _ 16 (all_below_at (length digits) (is_digit digits) all i h)
