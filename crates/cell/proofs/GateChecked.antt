-- What the test of a table with a gate (`gate_status`) says of the table. Assumes nothing.
use Prim.Native.Nat.{◌≤◌}
use mathlib.Core.List.{List}
use Rattle.types.specs.declared.table.Table.{Table}
use Rattle.types.specs.declared.gate.Gate.{Gate}
use Rattle.cell.specs.Calls.{gate_rules}
use Rattle.refusal.specs.Refusal.{Rule, NoneBroken, also}
use Rattle.refusal.proofs.TableChecked.{kept_inputs}

-- a table whose rules are kept with those of the gate beside it has at most eight inputs
pub gate_inputs : (t : Table) (g : Gate) {others : List Rule} → NoneBroken (gate_rules t g others) → t.n ≤ 8
gate_inputs t g (also same kept) = kept_inputs t kept
