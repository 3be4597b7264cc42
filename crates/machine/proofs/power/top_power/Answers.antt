-- `crate::power::top_power` meets its contract: 1 shifted by 31 places or fewer is a power of two that is not above k, so that no bit is
-- lost. Assumes nothing.
use mathlib.Core.Path.{◌≡◌, sym, ◌∙◌, ap}
use Prim.Native.Nat.{ℕ, ◌-◌, ◌%◌, ◌^◌}
use native.Mathlib.Nat.{one-mul, mod-eq_of_lt}
use native.Mathlib.Omega.{arith}
use lib.Count.{count_leading_zeros}
use Rattle.numbers.specs.Power.{highest}
use Rattle.numbers.proofs.PowerLaws.{highest_zero, highest_shift, highest_le}
use Rattle.machine.proofs.power.top_power.Goals as goal

pub returns-then-k-eq0 : goal.returns-then-k-eq0
returns-then-k-eq0 c = rw c.if-k-eq0.true (sym highest_zero)

pub returns : goal.returns
returns c =
    let k = c.args.k in
    let is : highest k ≡ 2 ^ (31 - count_leading_zeros 32 k) = highest_shift k (omega (arith, c.if-k-eq0.false)) in
    ap (λ (m : ℕ). m % 2 ^ 32) (one-mul (2 ^ (31 - count_leading_zeros 32 k)) ∙ sym is)
    ∙ mod-eq_of_lt (omega (arith, highest_le k c.ranges.k.fits, c.ranges.k))
