-- `digits::all_digits` meets its contract. The loop's invariant: each character below `at` is a digit. Assumes nothing.
use mathlib.Core.Path.{◌≡◌}
use mathlib.Core.Bool.{true}
use Rattle.numbers.specs.Tests.{all_below}
use Rattle.digits.specs.Digits.{is_digit}
use Rattle.digits.proofs.digits.all_digits.Given as goal

abbrev pub invariant-loop-at : goal.invariant-loop-at
invariant-loop-at l = all_below l.at (is_digit l.digits) ≡ true
