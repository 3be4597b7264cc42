-- The numbers of the report are within their bounds, and fewer lines are left.
use Rattle.batch.specs.Progress.{Bounded}
use Rattle.batch.proofs.LeftLaws.{lines_left}
use Rattle.printing.proofs.report.print_lines.Given as goal

abbrev pub invariant-loop-out : goal.invariant-loop-out
invariant-loop-out g l = Bounded l.progress

abbrev pub decreases-loop-out : goal.decreases-loop-out
decreases-loop-out g l = lines_left l.input l.progress
