-- The true inputs that two rows share: over all eight inputs they are counted in rows of five inputs, the low inputs in the rows modulo 32
-- and the higher ones in the rows divided by 32. Assumes nothing.
use mathlib.Core.Path.{◌≡◌, sym, ◌∙◌, ap, ap₂}
use Prim.Native.Nat.{ℕ, ◌+◌, ◌*◌, ◌-◌, ◌/◌, ◌%◌, ◌^◌, ◌≤◌, ◌<◌}
use native.Mathlib.Nat.{mul-zero, mul-le-mul}
use native.Mathlib.Omega.{arith}
use lib.Pow.{shr-shr, field, mod-mod-pow}
use Rattle.numbers.specs.Sum.{sum_below}
use Rattle.numbers.proofs.SumLaws.{sum_below_suc, sum_below_ext, sum_below_most}
use Rattle.function.specs.Function.{level}
use Rattle.table.proofs.TableLaws.{level_lt, level_past}
use Rattle.correction.specs.Steps.{shared}

-- the sum over 8 places is that over the first 5 and that over the last 3
sum_below_parted : (f : ℕ → ℕ) → sum_below 8 f ≡ sum_below 5 f + sum_below 3 (λ p. f (5 + p))
unfolding sum_below
sum_below_parted f = omega arith

-- how many inputs are true in both rows
abbrev pub both : ℕ → ℕ → ℕ
both r q = sum_below 8 (λ place. level 2 r place * level 2 q place)

-- an input that is false in one of them is not shared
unshared : (r q place : ℕ) → level 2 q place ≡ 0 → level 2 r place * level 2 q place ≡ 0
unshared r q place e = rw (e, mul-zero)

-- the low inputs are those of the row modulo 32
level_low : (r place : ℕ) → place < 5 → level 2 (r % 32) place ≡ level 2 r place
level_low r place h =
    let above = 4 - place in
    let five : 5 ≡ above + 1 + place = omega arith in
    ap (λ (x : ℕ). r % 2 ^ x / 2 ^ place % 2) five
    ∙ ap (λ (x : ℕ). x % 2) (field r (above + 1) place)
    ∙ mod-mod-pow (r / 2 ^ place) above 1

-- the higher ones are those of the row divided by 32
level_high : (r place : ℕ) → level 2 (r / 32) place ≡ level 2 r (5 + place)
level_high r place = ap (λ (x : ℕ). x % 2) (shr-shr r 5 place)

-- row 32 h has no low input, and its higher ones are those of h
level_none : (h place : ℕ) → place < 5 → level 2 (32 * h) place ≡ 0
level_none h place l =
    let none : 32 * h % 32 ≡ 0 = omega arith in
    sym (level_low (32 * h) place l) ∙ ap (λ (x : ℕ). level 2 x place) none ∙ level_past {n = 0} 0 place (omega arith) (omega arith)

level_times : (h place : ℕ) → level 2 (32 * h) (5 + place) ≡ level 2 h place
level_times h place =
    let back : 32 * h / 32 ≡ h = omega arith in
    sym (level_high (32 * h) place) ∙ ap (λ (x : ℕ). level 2 x place) back

-- a row of five inputs shares low ones alone, and has those of the other row modulo 32
pub both_low : (r q : ℕ) → q < 32 → both r q ≡ shared (r % 32) q
unfolding shared
both_low r q h =
    let f : ℕ → ℕ = λ place. level 2 r place * level 2 q place in
    let past : (place : ℕ) → 5 ≤ place → f place ≡ 0 = λ place l. unshared r q place (level_past {n = 5} q place h l) in
    let g : ℕ → ℕ = λ place. level 2 (r % 32) place * level 2 q place in
    let low = sum_below_ext 5 g f (λ place l. ap (λ (x : ℕ). x * level 2 q place) (level_low r place l)) in
    let none = sum_below_most 3 0 (λ place. f (5 + place)) (λ place l. omega (arith, past (5 + place) (omega arith))) in
    omega (arith, sum_below_parted f, none, low)

-- a row without low inputs shares the higher ones, which stand five places lower in the rows divided by 32
pub both_high : (r h : ℕ) → h < 8 → both r (32 * h) ≡ shared (r / 32) h
unfolding shared
both_high r h l =
    let f : ℕ → ℕ = λ place. level 2 r place * level 2 (32 * h) place in
    let g : ℕ → ℕ = λ place. level 2 (r / 32) place * level 2 h place in
    let none = sum_below_most 5 0 f (λ place k. omega (arith, unshared r (32 * h) place (level_none h place k))) in
    let higher = sum_below_ext 3 (λ place. f (5 + place)) g (λ place k. ap₂ ◌*◌ (sym (level_high r place)) (level_times h place)) in
    let past : (place : ℕ) → 3 ≤ place → g place ≡ 0 = λ place k. unshared (r / 32) h place (level_past {n = 3} h place l k) in
    omega (arith, sum_below_parted f, none, higher, sum_below_suc 4 g, sum_below_suc 3 g, past 3 (omega arith), past 4 (omega arith))

-- two rows share at most five low inputs
pub shared_most : (r q : ℕ) → shared r q ≤ 5
unfolding shared
shared_most r q =
    sum_below_most 5 1 (λ place. level 2 r place * level 2 q place)
    (λ place h. mul-le-mul (at_most r place) (at_most q place))
  where
    at_most : (r place : ℕ) → level 2 r place ≤ 1
    at_most r place = omega (arith, level_lt r place)
