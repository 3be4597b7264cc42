-- `line::record_or_refusal` meets its contract: a table that was read keeps its format, and so has at most eight inputs. Assumes nothing.
use mathlib.Core.Path.{sym}
use Rattle.refusal.proofs.TableChecked.{kept_inputs}
use Rattle.codec.proofs.TableFieldLaws.{record_read}
use Rattle.batch.proofs.line.record_or_refusal.Goals as goal

pub decided_line-requires : goal.decided_line-requires
decided_line-requires c =
    let a = c.args in
    let read = c.in-Ok.read in
    let few = kept_inputs read.value (record_read a.input.now a.at read (sym c.in-Ok.ensures)).taken in
    (c.requires.0, c.requires.1, few, c.requires.2)
