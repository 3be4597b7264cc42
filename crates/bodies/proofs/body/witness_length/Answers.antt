-- `bodies::body::witness_length` meets its contract: the lengths of the table and of the row list. Assumes nothing.
use Rattle.records.specs.declared.record.Record.TheVariants as Record'
use native.Mathlib.Omega.{arith}
use Rattle.table.proofs.TableLaws.{rows_le}
use Rattle.refusal.proofs.TableChecked.{kept_inputs}
use Rattle.bodies.proofs.RecordParts.{witness_fits}
use Rattle.bodies.proofs.BodyLaws.{body_count, body_most}
use Rattle.bodies.proofs.body.witness_length.Goals as goal

pub rows_length-requires : goal.rows_length-requires
rows_length-requires c =
    let a = c.args in
    rw c.row_count.ensures (rows_le (kept_inputs a.table c.requires), (witness_fits a.table a.witness c.requires).past)

pub overflow_add-result : goal.overflow_add-result
overflow_add-result c =
    let x = Record'.Witness c.args.table c.args.witness in
    omega (arith, body_count x, body_most x (kept_inputs c.args.table c.requires))

pub returns : goal.returns
returns c = omega (arith, body_count (Record'.Witness c.args.table c.args.witness))
