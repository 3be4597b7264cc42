-- `bodies::body::put_gate` meets its contract: the table, and the vector of the gate behind it. Assumes nothing.
use Rattle.records.specs.declared.record.Record.TheVariants as Record'
use native.Mathlib.Omega.{arith}
use Rattle.table.specs.Gate.{weight_limit}
use Rattle.job.proofs.SoundLaws.{in_range_search}
use Rattle.cell.proofs.GateChecked.{gate_inputs}
use Rattle.bodies.proofs.RecordParts.{gate_cares, gate_in_limits}
use Rattle.bodies.proofs.BodyLaws.{table_room, rest_room, rest_put}
use Rattle.bodies.proofs.body.put_gate.Goals as goal

pub put_table-v_at-requires : goal.put_table-v_at-requires
put_table-v_at-requires c =
    let kept = c.requires.0 in
    (gate_inputs c.args.table c.args.gate kept, gate_cares c.args.table c.args.gate kept, table_room (Record'.Gate c.args.table c.args.gate) c.args.out.now c.args.at c.requires.1)

pub put_vector-requires : goal.put_vector-requires
put_vector-requires c =
    let g = c.args.gate in
    rw c.vector_of.ensures (
      gate_inputs c.args.table c.args.gate c.requires.0,
      in_range_search weight_limit g.n g.weights g.threshold (omega arith) (gate_in_limits c.args.table g c.requires.0),
      rest_room (Record'.Gate c.args.table c.args.gate) c.args.out.now c.args.at c.requires.1 c.put_table-v_at.ensures,
    )

pub returns : goal.returns
returns c =
    let last = rw c.vector_of.ensures at c.put_vector.ensures in
    rest_put (Record'.Gate c.args.table c.args.gate) c.args.out.now c.args.at c.requires.1 c.put_table-v_at.ensures last
