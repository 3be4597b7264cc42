-- `handed::carry_job` meets its contract: the job after the carry-on keeps its rules, and what it has come to is written. Assumes nothing.
use mathlib.Core.Path.{refl}
use lib.ListN.{length}
use Rattle.std.proofs.lemmas.Result.{err_from_is_err_and}
use Rattle.outcome.specs.Outcome.{outcome_written}
use Rattle.handed.proofs.HandedLaws.{next_kept, next_handed, refused_handed}
use Rattle.handed.proofs.handed.carry_job.Goals as goal

-- ---- a refusal
pub returns-in_err-carried : goal.returns-in_err-carried
returns-in_err-carried c =
    let a = c.args in
    let (e, is, same) = err_from_is_err_and c.from_residual.result c.from_residual.ensures.1 in
    rw (is, same, refused_handed a.job a.budget c.carry_on-carried.ensures (outcome_written (length a.out.now)) c.in_err-carried.was) ((refl, refl), refl)

-- ---- the next job
pub put_outcome-requires : goal.put_outcome-requires
put_outcome-requires c = next_kept c.args.job c.args.budget c.carry_on-carried.ensures c.in_ok-carried.was

pub returns : goal.returns
returns c =
    let a = c.args in
    rw (← next_handed a.job a.budget c.carry_on-carried.ensures (outcome_written (length a.out.now)) c.in_ok-carried.was) c.put_outcome.ensures
