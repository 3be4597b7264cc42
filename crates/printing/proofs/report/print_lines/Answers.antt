-- A report that was not done has fewer lines left after a call of `fill`.
use Rattle.std.proofs.Common.{◌≡◌, false, ap, arith, rules}
use Rattle.batch.specs.Progress.{is_done}
use Rattle.batch.proofs.LeftLaws.{lines_left, left_less}
use Rattle.printing.proofs.report.print_lines.Goals as goal

pub loop-out-smaller : goal.loop-out-smaller
loop-out-smaller g c =
    let undone : is_done c.loop-out.progress.phase ≡ false = search rules in
    let lines = c.fill-lines in
    omega
    (arith, left_less c.args.input.now lines.result.count c.loop-out.progress (lines.ensures.some undone) undone, ap (lines_left c.args.input.now) lines.ensures.next)
