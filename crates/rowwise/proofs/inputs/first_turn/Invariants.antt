-- `inputs::first_turn` meets its contract. The loop's invariant: no row below `row` turns. Assumes nothing.
use mathlib.Core.Path.{◌≡◌}
use mathlib.Core.Bool.{false}
use Prim.Native.Nat.{ℕ, ◌<◌}
use Rattle.table.specs.Table.{function_of}
use Rattle.function.specs.Turns.{turns_at}
use Rattle.rowwise.proofs.inputs.first_turn.Given as goal

abbrev pub invariant-loop-row : goal.invariant-loop-row
invariant-loop-row l = (r : ℕ) → r < l.row → turns_at (function_of l.fn.table) l.to l.place r ≡ false
