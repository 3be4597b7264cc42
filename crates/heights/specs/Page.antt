-- The heights of rows: how many inputs of a row are true (document 01, "Kinds, Chow, report"), and the cell manual's page of them (document 02,
-- §2). Definitions only. Assumes nothing.
use Rattle.std.specs.Prelude.{List, ℕ}
use Rattle.numbers.specs.Sum.{sum_below}
use Rattle.numbers.specs.Tabulate.{tabulate}
use Rattle.function.specs.Function.{level}

-- how many of a row's n inputs are true: the level of an input is 1 where it is true, and 0 where it is false
unfoldable pub true_inputs : (n row : ℕ) → ℕ
unfolding sum_below
true_inputs n row = sum_below n (level 2 row)

-- the manual's page: the true inputs of each of the 256 rows of eight inputs
unfoldable pub manual_page : List ℕ
unfolding tabulate true_inputs
manual_page = tabulate 256 (true_inputs 8)
