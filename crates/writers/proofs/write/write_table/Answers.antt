-- `writers::write::write_table` meets its contract: the law of a call that writes, at a table. Assumes nothing.
use Rattle.records.specs.declared.record.Record.TheVariants as Record'
use native.Mathlib.Omega.{arith}
use Rattle.std.specs.Prelude.{◌≡◌, ℕ, length}
use Rattle.types.specs.declared.table.Table.{Table}
use Rattle.codec.specs.TableField.{table_bytes}
use Rattle.records.specs.Record.{body_bytes}
use Rattle.bodies.proofs.BodyLaws.{table_body}
use Rattle.writers.proofs.WriteLaws.{write_passed, size_most, write_short, write_body}
use Rattle.writers.proofs.write.write_table.Goals as goal

-- the body is the table
long : (t : Table) {m : ℕ} → m ≡ length (table_bytes t) → m ≡ length (body_bytes (Record'.Table t))
long t e = rw (table_body t) e

pub overflow_add-table_length : goal.overflow_add-table_length
overflow_add-table_length c =
    let a = c.args in
    let passed = write_passed (Record'.Table a.table) a.out.now c.table_status.ensures c.in_ok-table_status.was in
    omega (arith, size_most passed (long a.table c.table_length.ensures))

pub returns-then-out-table_length : goal.returns-then-out-table_length
returns-then-out-table_length c =
    let a = c.args in
    let passed = write_passed (Record'.Table a.table) a.out.now c.table_status.ensures c.in_ok-table_status.was in
    write_short passed (long a.table c.table_length.ensures) c.if-out-table_length.true

pub returns : goal.returns
returns c =
    let a = c.args in
    let passed = write_passed (Record'.Table a.table) a.out.now c.table_status.ensures c.in_ok-table_status.was in
    write_body passed (long a.table c.table_length.ensures) c.if-out-table_length.false c.kind_for.ensures c.put_kind-at.ensures (rw (table_body a.table) c.put_table.ensures)
