-- `crate::tables::read_table` meets its contract: fields that are read end within the bytes, and bits that are read have no spare one. Assumes
-- nothing.
use mathlib.Core.Path.{sym}
use native.Mathlib.Omega.{arith}
use Rattle.codec.proofs.NumberLaws.{number_next}
use Rattle.codec.proofs.TableFieldLaws.{row_bits_clear, row_bits_within}
use Rattle.reading.proofs.tables.read_table.Goals as goal

pub read_row_bits-requires : goal.read_row_bits-requires
read_row_bits-requires c = (omega arith, (number_next c.args.bytes.now _ c.in_ok-inputs.inputs (sym c.in_ok-inputs.ensures)).1)

pub after_values-requires : goal.after_values-requires
after_values-requires c =
    let s = c.args.bytes.now in
    let inputs = c.in_ok-inputs.inputs in
    let field = c.in_ok-field.field in
    let read = sym c.in_ok-field.ensures in
    (omega arith, row_bits_within inputs.value s inputs.next field read, row_bits_clear inputs.value s inputs.next field read)
