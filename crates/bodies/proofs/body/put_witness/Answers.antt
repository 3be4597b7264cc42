-- `bodies::body::put_witness` meets its contract: the table, and the row list in the rest of the buffer. Assumes nothing.
use Rattle.records.specs.declared.record.Record.TheVariants as Record'
use native.Mathlib.Omega.{arith}
use Rattle.table.proofs.TableLaws.{rows_le}
use Rattle.refusal.proofs.TableChecked.{kept_inputs, kept_cares}
use Rattle.bodies.proofs.RecordParts.{witness_fits}
use Rattle.bodies.proofs.BodyLaws.{table_room, rest_lent, rest_part}
use Rattle.bodies.proofs.body.put_witness.Goals as goal

pub put_table-rows_at-requires : goal.put_table-rows_at-requires
put_table-rows_at-requires c =
    let a = c.args in
    (kept_inputs a.table c.requires.0, kept_cares a.table c.requires.0, table_room (Record'.Witness a.table a.witness) a.out.now a.at c.requires.1)

-- the row list has room behind the table
pub put_rows-length-requires : goal.put_rows-length-requires
put_rows-length-requires c =
    let a = c.args in
    let fit = witness_fits a.table a.witness c.requires.0 in
    let room = rest_lent (Record'.Witness a.table a.witness) a.out.now a.at c.requires.1 c.put_table-rows_at.ensures in
    rw c.row_count.ensures (rows_le (kept_inputs a.table c.requires.0), fit.past, fit.limit, omega (arith, room))

pub returns : goal.returns
returns c =
    let a = c.args in
    rest_part (Record'.Witness a.table a.witness) a.out.now a.at c.requires.1 c.put_table-rows_at.ensures c.put_rows-length.ensures
