-- `digits::all_digits` meets its contract. Assumes nothing.
use mathlib.Core.Path.{◌≡◌, sym, ◌∙◌, ap}
use Prim.Native.Nat.{ℕ}
use native.Mathlib.Omega.{arith}
use lib.ListN.{length, get_or}
use borrow.Author.Tests.{lt-ltb, le-ltb}
use Rattle.numbers.specs.Tests.{all_below}
use Rattle.numbers.proofs.TestLaws.{all_below_zero, all_below_more, all_below_fails}
use Rattle.digits.specs.Digits.{digit_value, is_digit}
use Rattle.digits.proofs.digits.all_digits.Goals as goal

pub loop-at-init : goal.loop-at-init
loop-at-init c = all_below_zero _

pub returns-then-digit_value-ge16 : goal.returns-then-digit_value-ge16
returns-then-digit_value-ge16 c =
    let digits = c.args.digits.now in
    sym
    (all_below_fails (length digits) (is_digit digits) c.loop-at.at (omega arith)
    (le-ltb (digit_value (get_or digits c.loop-at.at 0)) 16 (omega (arith, c.digit_value.ensures, c.if-digit_value-ge16.true))))

pub loop-at-preserved : goal.loop-at-preserved
loop-at-preserved c =
    let digits = c.args.digits.now in
    all_below_more c.loop-at.at (is_digit digits) c.loop-at.invariant (lt-ltb (digit_value (get_or digits c.loop-at.at 0)) 16 (omega (arith, c.digit_value.ensures, c.if-digit_value-ge16.false)))

pub returns : goal.returns
returns c =
    let digits = c.args.digits.now in
    let all : c.loop-at.at ≡ length digits = omega arith in
    sym (ap (λ (m : ℕ). all_below m (is_digit digits)) (sym all) ∙ c.loop-at.invariant)
