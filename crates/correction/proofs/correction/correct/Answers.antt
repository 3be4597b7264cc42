-- `correction::correct` meets its contract. The steps of the row's low inputs are added to the distances, those of its higher inputs
-- to the other sums. No sum wraps, since the sums are narrow and a step is at most 6 in size. Assumes nothing.
use mathlib.Core.Path.{◌≡◌, ◌∙◌, ap}
use mathlib.Core.Bool.{Bool, true, false}
use mathlib.Core.List.{List, ◌++◌}
use Prim.Native.Nat.{ℕ, zero, suc, ◌+◌, ◌*◌, ◌/◌, ◌%◌, ◌≤◌, ◌<◌}
use native.Mathlib.Nat.{mod-lt}
use native.Mathlib.Omega.{arith}
use lib.ListN.{get_or, take, drop}
use lib.IntN.{ℤ, pos, nat_abs, ◌+ℤ◌, ◌-ℤ◌, ◌*ℤ◌}
use mir.Syntax.{w16}
use mir.Val.{to_z, of_z, SFits}
use Rattle.numbers.specs.Tabulate.{tabulate}
use Rattle.function.specs.Vector.{sign}
use Rattle.lanes.specs.Codes.{row_code}
use Rattle.numbers.proofs.TabulateLaws.{get_d_unfilled}
use Rattle.correction.proofs.CorrectionLaws.{part, part_size, corrected_sums}
use Rattle.correction.proofs.correction.correct.Goals as goal

-- ---- the sign of a code
-- as the code makes it of the code's last bit
abbrev double : ℕ → ℤ
double bit = to_z w16 bit *ℤ pos 2

abbrev less : ℕ → ℤ
less bit = to_z w16 (of_z w16 (double bit)) -ℤ pos 1

abbrev made : ℕ → ℤ
made bit = to_z w16 (of_z w16 (less bit))

-- it fits 16 bits on the way
double_fits : (bit : ℕ) → bit < 2 → SFits w16 (double bit)
double_fits zero h = record { sfits = omega arith }
double_fits (suc zero) h = record { sfits = omega arith }
double_fits (suc (suc bit)) h = absurd (omega arith)

less_fits : (bit : ℕ) → bit < 2 → SFits w16 (less bit)
less_fits zero h = record { sfits = omega arith }
less_fits (suc zero) h = record { sfits = omega arith }
less_fits (suc (suc bit)) h = absurd (omega arith)

-- it is at most 1 in size, and the sign of the row's value
made_size : (bit : ℕ) → bit < 2 → nat_abs (made bit) ≤ 1
made_size zero h = omega arith
made_size (suc zero) h = omega arith
made_size (suc (suc bit)) h = absurd (omega arith)

made_is : (y : Bool) (r : ℕ) → made (row_code y r % 2) ≡ sign y
made_is true r = let odd : row_code true r % 2 ≡ 1 = omega arith in ap made odd
made_is false r = let even : row_code false r % 2 ≡ 0 = omega arith in ap made even

-- ---- the function
pub add_low-requires-clause-sizes : goal.add_low-requires-clause-sizes
add_low-requires-clause-sizes c q h =
    let a = c.args in
    omega (arith, c.requires.2 q 0 h (omega arith), part_size a.steps.now (a.code % 64 * 32) 32 q c.requires.1 (omega arith) h)

-- the sums after the first addition have the higher inputs' sums as they came
kept : (half sums : List ℤ) (f : ℕ → ℤ) (q : ℕ) → half ≡ tabulate 32 f ++ drop 32 sums
    → nat_abs (get_or half (32 + q) (pos 0)) ≡ nat_abs (get_or sums (32 + q) (pos 0))
kept half sums f q e = ap (λ (l : List ℤ). nat_abs (get_or l (32 + q) (pos 0))) e ∙ ap nat_abs (get_d_unfilled f sums 32 q (pos 0))

pub overflow_mul-code : goal.overflow_mul-code
overflow_mul-code c = double_fits _ (mod-lt c.args.code (omega arith))

pub overflow_sub-code : goal.overflow_sub-code
overflow_sub-code c = less_fits _ (mod-lt c.args.code (omega arith))

pub add_high-requires-clause-sizes : goal.add_high-requires-clause-sizes
add_high-requires-clause-sizes c q h =
    let a = c.args in
    let from = (a.code / 64 * 2 + a.code % 2) * 32 in
    omega (
      arith,
      c.requires.2 0 q (omega arith) h,
      kept c.add_low.new.sums a.sums.now (λ k. get_or a.sums.now k (pos 0) +ℤ get_or (part (a.code % 64 * 32) 32 a.steps.now) k (pos 0)) q c.add_low.ensures,
      part_size a.steps.now from 8 q c.requires.1 (omega arith) h,
      made_size (a.code % 2) (mod-lt a.code (omega arith)),
    )

pub returns : goal.returns
returns c v y row eight bound is sums-is =
    let a = c.args in
    let half = c.add_low.new.sums in
    let low : ℕ → ℤ = λ q. get_or (part (a.code % 64 * 32) 32 a.steps.now) q (pos 0) in
    let high : ℕ → ℤ = λ q. get_or (part ((a.code / 64 * 2 + a.code % 2) * 32) 8 a.steps.now) q (pos 0) in
    c.add_high.ensures
    ∙ ap (λ (z : ℤ). take 32 half ++ tabulate 8 (λ q. get_or half (32 + q) (pos 0) +ℤ high q -ℤ z))
    (ap (λ (k : ℕ). made (k % 2)) is ∙ made_is y row)
    ∙ corrected_sums y row a.code v a.steps.now eight c.requires.0 is c.requires.1 half
    (c.add_low.ensures ∙ ap (λ (l : List ℤ). tabulate 32 (λ q. get_or l q (pos 0) +ℤ low q) ++ drop 32 l) sums-is)
