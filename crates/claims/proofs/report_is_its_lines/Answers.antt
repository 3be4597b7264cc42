-- `claims::report_is_its_lines`: the laws of a report, and of the job that it shows. Assumes nothing.
use mathlib.Core.Path.{◌∙◌}
use Rattle.job.proofs.DecidedLaws.{decided_answered, decided_carried}
use Rattle.batch.proofs.ReportLaws.{lines_are_report, ends, too_long}
use Rattle.claims.proofs.report_is_its_lines.Goals as goal

pub returns : goal.returns
returns c = record { lines = lines_are_report; ends = ends; too_long = too_long; decides = λ t taken. decided_carried t taken ∙ decided_answered t taken }
