-- The bytes of words: a byte has the rows of its word from there on. Assumes nothing.
use mathlib.Core.Path.{◌≡◌, ◌∙◌, ap, ap₂}
use mathlib.Core.List.{List}
use Prim.Native.Nat.{ℕ, ◌+◌, ◌-◌, ◌*◌, ◌/◌, ◌%◌, ◌^◌, ◌<◌}
use native.Mathlib.Omega.{arith}
use lib.Dec.{eqb}
use lib.ListN.{get_or}
use lib.Pow.{shr-shr, field, mod-mod-pow}
use Rattle.numbers.specs.Packed.{bit_in}
use Rattle.words.specs.Words.{word_row}

-- its bits are those of the word from there on
byte_bit : (w at j : ℕ) → j < 8 → bit_in (w / 2 ^ (8 * at) % 256) j ≡ bit_in w (8 * at + j)
byte_bit w at j h =
    let x = w / 2 ^ (8 * at) in
    let whole : 8 ≡ 8 - j + j = omega arith in
    let eight : 256 ≡ 2 ^ (8 - j + j) = ap (λ (e : ℕ). 2 ^ e) whole in
    let one : 8 - j ≡ 7 - j + 1 = omega arith in
    ap (λ (e : ℕ). eqb e 1)
    (ap (λ (m : ℕ). x % m / 2 ^ j % 2) eight
    ∙ ap (λ (e : ℕ). e % 2) (field x (8 - j) j)
    ∙ ap (λ (e : ℕ). x / 2 ^ j % 2 ^ e % 2) one
    ∙ mod-mod-pow (x / 2 ^ j) (7 - j) 1
    ∙ ap (λ (e : ℕ). e % 2) (shr-shr w (8 * at) j))

-- and so the rows of the words
pub word_row_lem : (words : List ℕ) (at j : ℕ) → j < 8 → bit_in (get_or words (at / 8) 0 / 2 ^ (8 * (at % 8)) % 256) j ≡ word_row words (8 * at + j)
word_row_lem words at j h =
    let word : at / 8 ≡ (8 * at + j) / 64 = omega arith in
    let bit : 8 * (at % 8) + j ≡ (8 * at + j) % 64 = omega arith in
    byte_bit (get_or words (at / 8) 0) (at % 8) j h ∙ ap₂ (λ (w b : ℕ). bit_in (get_or words w 0) b) word bit
