-- `bodies::body::job_length` meets its contract: the lengths of the fields, which are too small for their sum to wrap. Assumes nothing.
use Rattle.records.specs.declared.record.Record.TheVariants as Record'
use native.Mathlib.Omega.{arith}
use Rattle.table.proofs.TableLaws.{rows_le}
use Rattle.job.proofs.JobChecked.{kept_sound}
use Rattle.refusal.proofs.TableChecked.{kept_inputs}
use Rattle.bodies.proofs.BodyLaws.{job_count, body_count, job_most}
use Rattle.bodies.proofs.body.job_length.Goals as goal

pub overflow_add-vectors : goal.overflow_add-vectors
overflow_add-vectors c = let j = c.args.job in omega (arith, job_most j (kept_inputs j.table c.requires))

pub overflow_add-result : goal.overflow_add-result
overflow_add-result c = let j = c.args.job in omega (arith, job_most j (kept_inputs j.table c.requires))

pub overflow_add-result-2 : goal.overflow_add-result-2
overflow_add-result-2 c = let j = c.args.job in omega (arith, job_most j (kept_inputs j.table c.requires))

pub overflow_add-result-3 : goal.overflow_add-result-3
overflow_add-result-3 c = let j = c.args.job in omega (arith, job_most j (kept_inputs j.table c.requires))

pub rows_length-requires : goal.rows_length-requires
rows_length-requires c =
    let j = c.args.job in
    rw c.row_count.ensures (rows_le (kept_inputs j.table c.requires), (kept_sound j c.requires).past)

pub returns : goal.returns
returns c = let j = c.args.job in omega (arith, body_count (Record'.Job j), job_count j)
