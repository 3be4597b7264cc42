-- `crate::tables::read_cares` meets its contract: care bits that are read have no spare one. Assumes nothing.
use mathlib.Core.Path.{sym}
use Rattle.codec.proofs.TableFieldLaws.{row_bits_clear}
use Rattle.reading.proofs.tables.read_cares.Goals as goal

pub is_whole-requires : goal.is_whole-requires
is_whole-requires c =
    let a = c.args in
    (c.requires.0, row_bits_clear a.n a.bytes.now a.at c.in_ok-field.field (sym c.in_ok-field.ensures))
