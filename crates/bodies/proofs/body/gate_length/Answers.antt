-- `bodies::body::gate_length` meets its contract: the lengths of the table and of the vector. Assumes nothing.
use Rattle.records.specs.declared.record.Record.TheVariants as Record'
use mathlib.Core.Path.{ap}
use native.Mathlib.Omega.{arith}
use lib.ListN.{length}
use Rattle.types.specs.declared.vector.Vector.{Vector}
use Rattle.codec.specs.VectorField.{vector_bytes}
use Rattle.cell.proofs.GateChecked.{gate_inputs}
use Rattle.bodies.proofs.RecordParts.{gate_cares}
use Rattle.bodies.proofs.BodyLaws.{body_count, body_most}
use Rattle.bodies.proofs.body.gate_length.Goals as goal

pub table_length-requires : goal.table_length-requires
table_length-requires c =
    (gate_inputs c.args.table c.args.gate c.requires, gate_cares c.args.table c.args.gate c.requires)

pub returns : goal.returns
returns c =
    let same = ap (λ (v : Vector). length (vector_bytes c.args.table.n v)) c.vector_of.ensures in
    omega (arith, same, body_count (Record'.Gate c.args.table c.args.gate))

pub overflow_add-result : goal.overflow_add-result
overflow_add-result c =
    let x = Record'.Gate c.args.table c.args.gate in
    omega (arith, returns c, body_most x (gate_inputs c.args.table c.args.gate c.requires))
