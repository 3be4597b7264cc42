-- `certificate::kind_read` meets its contract: the table of a record that was read keeps its rules. Assumes nothing.
use Rattle.std.proofs.Common.{Ok}
use mathlib.Core.Path.{◌∙◌, ap}
use Rattle.refusal.proofs.TableChecked.{kept_inputs, kept_cares}
use Rattle.certificates.proofs.certificate.kind_read.Goals as goal

pub is_whole-requires : goal.is_whole-requires
is_whole-requires c =
    let kept = c.requires _ (c.in_ok-table.was ∙ ap Ok c.in-Table.is) in
    (kept_inputs _ kept, kept_cares _ kept)

pub is_whole-requires-in-Job : goal.is_whole-requires-in-Job
is_whole-requires-in-Job c =
    let kept = c.requires _ (c.in_ok-table.was ∙ ap Ok c.in-Job.is) in
    (kept_inputs _ kept, kept_cares _ kept)
