-- `gate::gate_realises` meets its contract. The loop's invariant: the gate agrees with the table on each row below `row`. Assumes nothing.
use mathlib.Core.Path.{◌≡◌, sym, ◌∙◌}
use mathlib.Core.Bool.{true, false}
use Prim.Native.Nat.{ℕ, ◌<◌}
use native.Mathlib.Omega.{arith}
use Rattle.numbers.specs.Tests.{all_below}
use Rattle.numbers.proofs.TestLaws.{all_below_zero, all_below_more, all_below_fails}
use Rattle.types.specs.declared.table.Table.{Table}
use Rattle.types.specs.declared.gate.Gate.{Gate}
use Rattle.table.specs.Table.{rows, function_of}
use Rattle.function.specs.Gate.{realises}
use Rattle.table.proofs.OnTables.{table_realises_test}
use Rattle.gates.proofs.gate.gate_realises.Goals as goal
use Rattle.gates.proofs.gate.gate_realises.Invariants.{agrees}

-- where they differ on a row, the gate does not realise the table
realises_fails : (t : Table) (g : Gate) (r : ℕ) → r < rows t → agrees t g r ≡ false → realises g.weights g.threshold (function_of t) ≡ false
realises_fails t g r h e = table_realises_test t g.weights g.threshold ∙ all_below_fails (rows t) (agrees t g) r h e

-- where they agree on every row, it does
realises_all : (t : Table) (g : Gate) → all_below (rows t) (agrees t g) ≡ true → realises g.weights g.threshold (function_of t) ≡ true
realises_all t g e = table_realises_test t g.weights g.threshold ∙ e

pub loop-row-init : goal.loop-row-init
loop-row-init c = all_below_zero _

pub returns-then-not-agrees_at : goal.returns-then-not-agrees_at
returns-then-not-agrees_at c =
    let a = c.args in
    let below : c.loop-row.row < rows a.table = omega (arith, c.row_count-rows.ensures) in
    sym (realises_fails a.table a.gate _ below (sym c.agrees_at.ensures ∙ c.if-not-agrees_at.true))

pub loop-row-preserved : goal.loop-row-preserved
loop-row-preserved c = all_below_more c.loop-row.row _ c.loop-row.invariant (sym c.agrees_at.ensures ∙ c.if-not-agrees_at.false)

pub returns : goal.returns
returns c =
    let a = c.args in
    let end : c.loop-row.row ≡ rows a.table = omega (arith, c.row_count-rows.ensures) in
    sym (realises_all a.table a.gate (rw end at c.loop-row.invariant))
