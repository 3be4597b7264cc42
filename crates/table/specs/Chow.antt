-- Chow's parameters (document 01, "Kinds, Chow, report"; source document 003, equation 2). Definitions only. Assumes nothing.
use Rattle.std.specs.Prelude.{true, cond, List, ℕ, suc, ◌*◌, ltb, ℤ, pos, ◌-ℤ◌}
use Rattle.numbers.specs.Tabulate.{tabulate}
use Rattle.types.specs.declared.table.Table.{Table}
use Rattle.function.specs.Witness.{side_sum}
use Rattle.table.specs.Table.{function_of}

-- p0 is the count of true rows, pi that of true rows with input i
unfoldable pub true_rows : Table → ℕ → ℕ
unfolding side_sum
true_rows t i = side_sum (function_of t) true (λ r. 1) i

-- q of the input at a place, 2pi − p0; past n it is 0
unfoldable pub chow_at : Table → ℕ → ℤ
unfolding true_rows
chow_at t place = cond (ltb place t.n) (pos (2 * true_rows t (suc place)) -ℤ pos (true_rows t 0)) (pos 0)

-- the q of all eight places
unfoldable pub chow_of : Table → List ℤ
unfolding tabulate chow_at
chow_of t = tabulate 8 (chow_at t)
