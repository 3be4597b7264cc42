-- `digits::digit_byte` meets its contract: the digits of its rows, one where n is below 3. Assumes nothing.
use mathlib.Core.Path.{◌≡◌, ◌∙◌, ap}
use Prim.Native.Nat.{ℕ, ◌+◌, ◌-◌, ◌*◌, ◌≤◌, ◌<◌}
use native.Mathlib.Omega.{arith}
use lib.ListN.{length, get_or}
use Rattle.table.proofs.RowLaws.{whole_bytes, row_byte_lem}
use mathlib.Core.Bool.{true}
use mathlib.Core.List.{List}
use Rattle.numbers.specs.Tests.{all_below}
use Rattle.table.specs.Table.{rows_of}
use Rattle.digits.specs.Digits.{digit_value, digit_at, digit_row, digit_count, is_digit}
use Rattle.digits.proofs.DigitLaws.{two_digits, one_digit, digit_small}
use Rattle.digits.proofs.digits.digit_byte.Goals as goal

-- the digits of n inputs, all of them digits, and a byte of the table
module _ (digits : List ℕ) (n at : ℕ) (inside : 8 * at < rows_of n) (count : length digits ≡ digit_count n) (all : all_below (length digits) (is_digit digits) ≡ true) where
  -- the place of the digit, counted from the last, is one of the digits'
  places : 2 * at ≤ length digits - 1
  places = omega (arith, count, inside)

  low_small : digit_at digits (2 * at) < 16
  low_small = digit_small digits (length digits - 1 - 2 * at) all (omega (arith, count, inside))

  -- with three inputs and more there is a digit before it
  module _ (h : 3 ≤ n) where
    pairs : 2 * at + 1 ≤ length digits - 1
    pairs = omega (arith, count, inside, whole_bytes n h)

    high_small : digit_at digits (2 * at + 1) < 16
    high_small = digit_small digits (length digits - 1 - (2 * at + 1)) all (omega (arith, pairs))

-- the digit before another's place
high_is : (digits : List ℕ) (at high : ℕ) → high ≡ digit_value (get_or digits (length digits - 1 - 2 * at - 1) 0) → high ≡ digit_at digits (2 * at + 1)
high_is digits at high e =
    let place : length digits - 1 - 2 * at - 1 ≡ length digits - 1 - (2 * at + 1) = omega arith in
    e ∙ ap (λ (i : ℕ). digit_value (get_or digits i 0)) place

pub overflow_mul-place : goal.overflow_mul-place
overflow_mul-place c = let a = c.args in omega (arith, places a.digits.now a.n a.at c.requires.1 c.requires.2 c.requires.3)

pub overflow_sub-place-2 : goal.overflow_sub-place-2
overflow_sub-place-2 c = let a = c.args in places a.digits.now a.n a.at c.requires.1 c.requires.2 c.requires.3

pub returns-then-n-lt3 : goal.returns-then-n-lt3
returns-then-n-lt3 c =
    let a = c.args in
    c.kept_bits.ensures
    ∙ row_byte_lem a.n a.at c.digit_value-low.result (digit_row a.digits.now) c.requires.1
    (one_digit a.digits.now a.n a.at c.digit_value-low.result c.if-n-lt3.true c.digit_value-low.ensures)

pub overflow_sub-place-3 : goal.overflow_sub-place-3
overflow_sub-place-3 c =
    let a = c.args in omega (arith, pairs a.digits.now a.n a.at c.requires.1 c.requires.2 c.requires.3 c.if-n-lt3.false)

pub overflow_mul-high : goal.overflow_mul-high
overflow_mul-high c =
    let digits = c.args.digits.now in
    let n = c.args.n in
    let at = c.args.at in
    omega (arith, high_is digits at _ c.digit_value-high.ensures, high_small digits n at c.requires.1 c.requires.2 c.requires.3 c.if-n-lt3.false)

pub overflow_add-high : goal.overflow_add-high
overflow_add-high c =
    let digits = c.args.digits.now in
    let n = c.args.n in
    let at = c.args.at in
    omega (
      arith,
      high_is digits at _ c.digit_value-high.ensures,
      high_small digits n at c.requires.1 c.requires.2 c.requires.3 c.if-n-lt3.false,
      c.digit_value-low.ensures,
      low_small digits n at c.requires.1 c.requires.2 c.requires.3,
    )

pub returns : goal.returns
returns c =
    let digits = c.args.digits.now in
    let n = c.args.n in
    let at = c.args.at in
    let low = c.digit_value-low.result in
    let high = c.digit_value-high.result in
    let small : low < 16 = omega (arith, c.digit_value-low.ensures, low_small digits n at c.requires.1 c.requires.2 c.requires.3) in
    c.kept_bits-2.ensures
    ∙ row_byte_lem n at (16 * high + low) (digit_row digits) c.requires.1
    (λ j l inside. two_digits digits at high low small c.digit_value-low.ensures (high_is digits at high c.digit_value-high.ensures) j l)
