-- `correction::add_low` meets its contract. The loop's invariant: the places below `row` have their sums. Assumes nothing.
use mathlib.Core.Path.{◌≡◌}
use mathlib.Core.List.{List}
use Prim.Native.Nat.{ℕ}
use lib.ListN.{get_or}
use lib.IntN.{ℤ, pos, ◌+ℤ◌}
use Rattle.numbers.proofs.TabulateLaws.{filled}
use Rattle.correction.proofs.correction.add_low.Given as goal

-- a place's sum and its step
abbrev pub added : List ℤ → List ℤ → ℕ → ℤ
added sums steps q = get_or sums q (pos 0) +ℤ get_or steps q (pos 0)

abbrev pub invariant-loop-row : goal.invariant-loop-row
invariant-loop-row l = l.sums ≡ filled (added l.initial.sums l.steps) l.initial.sums l.row
