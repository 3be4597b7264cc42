-- `sums::side_sums` meets its contract. The loop's invariant: the sums are what the rows below `row` add. Assumes nothing.
use mathlib.Core.Path.{◌≡◌}
use mathlib.Core.Bool.{Bool}
use mathlib.Core.List.{List}
use Prim.Native.Nat.{ℕ}
use Rattle.numbers.specs.Sum.{sum_below}
use Rattle.numbers.specs.Tabulate.{tabulate}
use Rattle.types.specs.declared.table.Table.{Table}
use Rattle.table.specs.Table.{function_of}
use Rattle.function.specs.Witness.{count_of}
use Rattle.function.proofs.WitnessLaws.{side_term}
use Rattle.sides.proofs.sums.side_sums.Given as goal

-- what the rows below m add to the sum of an input
abbrev pub sum_to : Table → Bool → List ℕ → ℕ → ℕ → ℕ
sum_to t side counts m i = sum_below m (side_term (function_of t) side (count_of counts) i)

abbrev pub invariant-loop-row : goal.invariant-loop-row
invariant-loop-row l =
    (t : Table) → t.bytes ≡ l.values → l.sums ≡ tabulate 9 (sum_to t l.side l.counts l.row)
