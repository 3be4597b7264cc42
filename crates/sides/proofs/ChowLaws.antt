-- Laws of Chow's parameters: how many true rows there are, and q of a place. Assumes nothing.
use mathlib.Core.Path.{◌≡◌}
use mathlib.Core.Bool.{true}
use Prim.Native.Nat.{ℕ, ◌+◌, ◌*◌, ◌≤◌, ◌<◌}
use native.Mathlib.Numerals.{add-one}
use native.Mathlib.Omega.{arith}
use borrow.Author.Tests.{lt-ltb, le-ltb}
use lib.IntN.{pos, ◌-ℤ◌}
use Rattle.types.specs.declared.table.Table.{Table}
use Rattle.function.proofs.WitnessLaws.{side_sum_terms}
use Rattle.table.specs.Table.{rows, function_of}
use Rattle.table.specs.Chow.{true_rows, chow_at}
use Rattle.table.proofs.TableLaws.{rows_le}
use Rattle.sides.proofs.SideLaws.{side_terms_le}

-- a table of at most eight inputs has at most 256 true rows
pub true_rows_le : (t : Table) (i : ℕ) → t.n ≤ 8 → true_rows t i ≤ 256
unfolding true_rows
true_rows_le t i h =
    omega (arith, rows_le h, side_sum_terms (function_of t) true (λ r. 1) i, side_terms_le t true (λ r. 1) i 1 (λ r. omega arith) (rows t))

-- q of an input of the table is 2pi − p0
pub chow_at_inside : (t : Table) (place : ℕ) → place < t.n → chow_at t place ≡ pos (2 * true_rows t (place + 1)) -ℤ pos (true_rows t 0)
unfolding chow_at
chow_at_inside t place h = rw (lt-ltb place t.n h, add-one place)

-- q past the inputs of the table is 0
pub chow_at_past : (t : Table) (place : ℕ) → t.n ≤ place → chow_at t place ≡ pos 0
unfolding chow_at
chow_at_past t place h = rw (le-ltb place t.n h)
