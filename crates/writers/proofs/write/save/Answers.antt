-- `writers::write::save` meets its contract: the law of a call that writes, at an open job. Assumes nothing.
use Rattle.records.specs.declared.record.Record.TheVariants as Record'
use mathlib.Core.List.{[]}
use native.Mathlib.Omega.{arith}
use Rattle.std.proofs.lemmas.Result.{err_from_is_err_and}
use Rattle.writers.proofs.KeptLaws.{kept_job, kept_open}
use Rattle.writers.proofs.WriteLaws.{write_refused, write_passed, size_most, write_short, body_room, write_body}
use Rattle.writers.proofs.write.save.Goals as goal

pub returns-in_err-save_status : goal.returns-in_err-save_status
returns-in_err-save_status c =
    let a = c.args in
    let (e, is, same) = err_from_is_err_and c.from_residual.result c.from_residual.ensures.1 in
    rw (is, same) (write_refused (Record'.Job a.job) a.out.now c.save_status.ensures c.in_err-save_status.was)

pub job_length-requires : goal.job_length-requires
job_length-requires c =
    let a = c.args in
    let passed = write_passed (Record'.Job a.job) a.out.now c.save_status.ensures c.in_ok-save_status.was in
    kept_job a.job passed.kept

pub overflow_add-job_length : goal.overflow_add-job_length
overflow_add-job_length c =
    let a = c.args in
    let passed = write_passed (Record'.Job a.job) a.out.now c.save_status.ensures c.in_ok-save_status.was in
    omega (arith, size_most passed c.job_length.ensures)

pub returns-then-out-job_length : goal.returns-then-out-job_length
returns-then-out-job_length c =
    let a = c.args in
    let passed = write_passed (Record'.Job a.job) a.out.now c.save_status.ensures c.in_ok-save_status.was in
    write_short passed c.job_length.ensures c.if-out-job_length.true

pub put_job-requires : goal.put_job-requires
put_job-requires c =
    let a = c.args in
    let passed = write_passed (Record'.Job a.job) a.out.now c.save_status.ensures c.in_ok-save_status.was in
    (kept_job a.job passed.kept, kept_open a.job [] passed.kept, body_room passed c.job_length.ensures c.if-out-job_length.false c.kind_for.ensures c.put_kind-at.ensures)

pub returns : goal.returns
returns c =
    let a = c.args in
    let passed = write_passed (Record'.Job a.job) a.out.now c.save_status.ensures c.in_ok-save_status.was in
    write_body passed c.job_length.ensures c.if-out-job_length.false c.kind_for.ensures c.put_kind-at.ensures c.put_job.ensures
