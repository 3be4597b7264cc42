-- `gate::gate_realises` meets its contract. The loop's invariant: the gate agrees with the table on each row below `row`. Assumes nothing.
use mathlib.Core.Path.{◌≡◌}
use mathlib.Core.Bool.{Bool, true, not, ◌||◌}
use Prim.Native.Nat.{ℕ}
use Rattle.numbers.specs.Tests.{same_bool, all_below}
use Rattle.types.specs.declared.table.Table.{Table}
use Rattle.types.specs.declared.gate.Gate.{Gate}
use Rattle.table.specs.Table.{value, cared}
use Rattle.function.specs.Gate.{gate_true}
use Rattle.function.specs.Function.{level}
use Rattle.gates.proofs.gate.gate_realises.Given as goal

-- whether gate and table agree on a row
abbrev pub agrees : Table → Gate → ℕ → Bool
agrees table gate row = not (cared table row) || same_bool (gate_true gate.weights gate.threshold (level 2 row)) (value table row)

abbrev pub invariant-loop-row : goal.invariant-loop-row
invariant-loop-row l = all_below l.row (agrees l.table l.gate) ≡ true
