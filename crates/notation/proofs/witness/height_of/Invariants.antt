-- `witness::height_of` meets its contract. The loop's invariant: `sum` is what the rows below `row` add, each at most 8 × (2^32 - 1). There
-- are at most 256 rows, so the sum fits. Assumes nothing.
use mathlib.Core.Path.{◌≡◌}
use Prim.Native.Nat.{◌*◌, ◌≤◌}
use Rattle.numbers.specs.Sum.{sum_below}
use Rattle.notation.proofs.HeightLaws.{height_term}
use Rattle.notation.proofs.witness.height_of.Given as goal

abbrev pub invariant-loop-row : goal.invariant-loop-row
invariant-loop-row l = (l.sum ≤ l.row * 34359738360) × (l.sum ≡ sum_below l.row (height_term l.fn.table.bytes l.fn.counts))
