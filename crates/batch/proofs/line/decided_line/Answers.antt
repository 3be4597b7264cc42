-- `line::decided_line` meets its contract: the job is the one that a report shows. Assumes nothing.
use mathlib.Core.Path.{◌≡◌}
use Rattle.job.specs.Machine.{run, fresh, decided}
use Rattle.batch.proofs.AdvanceLaws.{record_made}
use Rattle.batch.proofs.line.decided_line.Goals as goal
use Rattle.batch.proofs.line.decided_line.Goals.{After-decided_by}

is_decided : (c : After-decided_by) → (let t = c.args.read.value in record { table = t; state = c.decided_by.result } ≡ decided t)
unfolding run fresh
is_decided c = λ i. record { table = c.args.read.value; state = c.decided_by.ensures i }

pub returns-clause-made : goal.returns-clause-made
returns-clause-made c =
    let a = c.args in
    record_made a.tally a.read a.out.now (is_decided (goal.at.returns-clause-made c).After-decided_by) c.with_record.ensures c.record_line-length.ensures.put
