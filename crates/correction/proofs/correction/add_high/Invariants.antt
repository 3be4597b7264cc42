-- `correction::add_high` meets its contract. The loop's invariant: the places below 32 are as they came, and of the others those of the rows
-- below `row` have their sums. Assumes nothing.
use mathlib.Core.Path.{◌≡◌}
use mathlib.Core.List.{List}
use Prim.Native.Nat.{ℕ, ◌+◌}
use lib.ListN.{get_or, take, drop}
use lib.IntN.{ℤ, pos, ◌+ℤ◌, ◌-ℤ◌}
use Rattle.numbers.proofs.TabulateLaws.{filled}
use Rattle.correction.proofs.correction.add_high.Given as goal

-- the sum of a row of the higher inputs and its step, less the sign
abbrev pub added : List ℤ → List ℤ → ℤ → ℕ → ℤ
added sums steps sign q = get_or sums (32 + q) (pos 0) +ℤ get_or steps q (pos 0) -ℤ sign

abbrev pub invariant-loop-row : goal.invariant-loop-row
invariant-loop-row l =
    (take 32 l.sums ≡ take 32 l.initial.sums)
    × (drop 32 l.sums ≡ filled (added l.initial.sums l.steps l.sign) (drop 32 l.initial.sums) l.row)
