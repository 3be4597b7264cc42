-- `sums::weight_at` meets its contract, by the rows of one true input. Assumes nothing.
use mathlib.Core.Path.{◌≡◌, sym, ◌∙◌, ap, ap₂}
use Prim.Native.Nat.{◌*◌, ◌-◌, ◌%◌, ◌^◌, ◌≤◌, ◌+◌}
use native.Mathlib.Omega.{arith}
use borrow.Author.Rules.{rules}
use lib.Pow.{pow_mono}
use lib.ListN.{get_or}
use lib.IntN.{ℤ, pos, ◌-ℤ◌}
use mir.Syntax.{w16, w32}
use mir.Val.{to_z, of_z, SFits}
use mir.Facts.{to_z-of_z}
use Rattle.numbers.proofs.Int.{parts_sub, one_part}
use Rattle.numbers.proofs.Widths.{size_fits, wide_back, fits_size}
use Rattle.numbers.proofs.PowerLaws.{one_shifted}
use Rattle.lanes.proofs.WeightLaws.{low_weight, high_weight}
use Rattle.lanes.proofs.sums.weight_at.Goals as goal

-- ---- a low input
pub bounds-sums-place : goal.bounds-sums-place
bounds-sums-place c =
    let half : 2 ^ c.args.place ≤ 16 = pow_mono {j = 4} (omega arith) in
    omega (arith, one_shifted c.args.place (omega arith))

-- the difference of two sums that the code reads at 32 bits
difference : (x y : ℤ) → SFits w16 x → SFits w16 y
    → to_z w32 (of_z w32 (to_z w32 (of_z w32 (to_z w16 (of_z w16 x))) -ℤ to_z w32 (of_z w32 (to_z w16 (of_z w16 y))))) ≡ x -ℤ y
difference x y f g =
    let fits : SFits w32 (x -ℤ y) = size_fits (omega (arith, parts_sub x y, one_part (x -ℤ y), fits_size f, fits_size g)) in
    ap (λ (z : ℤ). to_z w32 (of_z w32 z)) (ap₂ ◌-ℤ◌ (wide_back w32 tt f) (wide_back w32 tt g)) ∙ to_z-of_z fits

pub returns-then-place-lt5 : goal.returns-then-place-lt5
returns-then-place-lt5 c v e =
    let place = c.args.place in
    let sums = c.args.sums.now in
    let alone : SFits w16 (get_or sums (1 * 2 ^ place % 2 ^ 64) (pos 0)) = search rules in
    let first : SFits w16 (get_or sums 0 (pos 0)) = search rules in
    difference (get_or sums (1 * 2 ^ place % 2 ^ 64) (pos 0)) (get_or sums 0 (pos 0)) alone first
    ∙ rw (one_shifted place (omega arith), e) (sym (low_weight v place c.if-place-lt5.true))

-- ---- a higher input
pub bounds-sums-place-else-place-lt5 : goal.bounds-sums-place-else-place-lt5
bounds-sums-place-else-place-lt5 c =
    let half : 2 ^ (c.args.place - 5) ≤ 4 = pow_mono {j = 2} (omega arith) in
    omega (arith, one_shifted (c.args.place - 5) (omega arith))

pub returns-else-place-lt5 : goal.returns-else-place-lt5
returns-else-place-lt5 c v e =
    let place = c.args.place in
    let fits : SFits w16 (get_or c.args.sums.now (32 + 1 * 2 ^ (place - 5) % 2 ^ 64) (pos 0)) = search rules in
    wide_back w32 tt fits ∙ rw (one_shifted (place - 5) (omega arith), e) (sym (high_weight v place c.if-place-lt5.false c.requires))
