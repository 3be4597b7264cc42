-- `job::job::advanced` meets its contract: a job that `job_status` refuses is refused alike. Assumes nothing.
use borrow.Author.Rules.{rules}
use Rattle.std.specs.Prelude.{[], ◌∷◌, Ok}
use Rattle.refusal.specs.Refusal.{checked}
use Rattle.job.specs.Machine.{run}
use Rattle.job.specs.Calls.{budget_range, past_cap, if_open}
use Rattle.job.proofs.JobChecked.{job_refused}
use Rattle.job.proofs.job.advanced.Goals as goal

pub returns-in_err-job_status-clause-value : goal.returns-in_err-job_status-clause-value
returns-in_err-job_status-clause-value c =
    let j = c.args.job in
    let b = c.args.budget in
    let next = if_open j.state.stage (checked (past_cap j b ∷ []) (Ok (run b j))) (Ok j) in
    let refused = job_refused j c.job_status.ensures (budget_range b ∷ []) next c.in_err-job_status.was in
    rw (← refused) (search rules)
