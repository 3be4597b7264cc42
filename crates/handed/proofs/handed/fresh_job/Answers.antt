-- `handed::fresh_job` meets its contract: the fresh job of a table keeps its rules, and what it has come to is written. Assumes nothing.
use mathlib.Core.Path.{◌≡◌, sym, ◌∙◌, ap, subst}
use mathlib.Core.List.{[]}
use lib.ListN.{length}
use Rattle.refusal.specs.Refusal.{NoneBroken}
use Rattle.refusal.proofs.TableChecked.{kept_inputs}
use Rattle.job.specs.declared.job.Job.{Job}
use Rattle.job.specs.Machine.{fresh}
use Rattle.job.specs.Calls.{job_rules}
use Rattle.outcome.specs.Outcome.{job_of}
use Rattle.handed.proofs.DecidedLaws.{fresh_job_kept}
use Rattle.handed.proofs.HandedLaws.{outcome_short}
use Rattle.handed.proofs.handed.fresh_job.Goals as goal
use Rattle.handed.proofs.handed.fresh_job.Goals.{After-fresh_state}

-- the job that is written, which keeps its rules
job_is : (c : After-fresh_state) → let t = c.args.table in job_of t c.fresh_state.result ≡ fresh t
unfolding fresh
job_is c = ap (job_of c.args.table) c.fresh_state.ensures

kept : (c : After-fresh_state) → NoneBroken (job_rules (job_of c.args.table c.fresh_state.result) [])
kept c = subst (λ (j : Job). NoneBroken (job_rules j [])) (sym (job_is c)) (fresh_job_kept c.args.table c.requires)

pub fresh_state-requires : goal.fresh_state-requires
fresh_state-requires c = kept_inputs c.args.table c.requires

pub write_outcome-requires : goal.write_outcome-requires
write_outcome-requires c = kept (goal.at.write_outcome-requires c).After-fresh_state

pub short_length-requires : goal.short_length-requires
short_length-requires c =
    outcome_short (length c.args.out.now) (job_of c.args.table c.fresh_state.result) (kept (goal.at.short_length-requires c).After-fresh_state) c.write_outcome.ensures.0

pub returns : goal.returns
returns c =
    let (r, b) = c.write_outcome.ensures in
    rw (← job_is (goal.at.returns c).After-fresh_state) (c.short_length.ensures ∙ r, b)
