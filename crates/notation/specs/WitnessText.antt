-- A witness as text (document 01, "Kinds, Chow, report"): N, K, height, row:count pairs. Definitions only. Assumes nothing.
use Rattle.std.specs.Prelude.{List, [], ◌∷◌, ◌++◌, ℕ, zero, suc, ◌*◌}
use Rattle.numbers.specs.Sum.{sum_below}
use Rattle.types.specs.declared.table.Table.{Table}
use Rattle.table.specs.Table.{rows, value}
use Rattle.function.specs.Witness.{only_if, count_of}
use Rattle.heights.specs.Page.{true_inputs}
use Rattle.text.specs.Text.{decimal, spaced}

-- the sum of count × true inputs over true rows
unfoldable pub height : Table → List ℕ → ℕ
unfolding sum_below true_inputs
height t counts = sum_below (rows t) (λ r. only_if (value t r) (count_of counts r * true_inputs t.n r))

-- the pair of a row; nothing where its count is 0
abbrev pub pair_text : ℕ → ℕ → List ℕ
pair_text row zero = []
pair_text row (suc count) = spaced (decimal row ++ (58 ∷ decimal (suc count)))

-- the pairs of so many rows from a row on
unfoldable pub pairs_text : List ℕ → ℕ → ℕ → List ℕ
pairs_text counts zero row = []
pairs_text counts (suc left) row = pair_text row (count_of counts row) ++ pairs_text counts left (suc row)

unfoldable pub witness_text : ℕ → Table → List ℕ → List ℕ
unfolding height pairs_text
witness_text k t counts = spaced (78 ∷ []) ++ (spaced (decimal k) ++ (spaced (decimal (height t counts)) ++ pairs_text counts (rows t) 0))
