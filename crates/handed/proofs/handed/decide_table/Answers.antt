-- `handed::decide_table` meets its contract: the job of the table after one carry-on keeps its rules, and what it has come to is written.
-- Assumes nothing.
use mathlib.Core.Path.{◌≡◌, sym, ap, subst}
use mathlib.Core.List.{[]}
use Rattle.refusal.specs.Refusal.{NoneBroken}
use Rattle.job.specs.declared.job.Job.{Job}
use Rattle.job.specs.Calls.{job_rules}
use lib.ListN.{length}
use Rattle.job.specs.Machine.{run, fresh, decided}
use Rattle.outcome.specs.Outcome.{job_of}
use Rattle.refusal.proofs.TableChecked.{kept_inputs}
use Rattle.handed.proofs.DecidedLaws.{decided_kept, decided_handed}
use Rattle.handed.proofs.handed.decide_table.Goals as goal
use Rattle.handed.proofs.handed.decide_table.Goals.{After-decided_alone-state}

-- the job that is written
job_is : (c : After-decided_alone-state) → let t = c.args.table in job_of t c.decided_alone-state.result ≡ decided t
unfolding run fresh
job_is c = ap (job_of c.args.table) c.decided_alone-state.ensures

pub decided_alone-state-requires : goal.decided_alone-state-requires
decided_alone-state-requires c = kept_inputs c.args.table c.requires

pub put_outcome-requires : goal.put_outcome-requires
put_outcome-requires c =
    subst (λ (j : Job). NoneBroken (job_rules j [])) (sym (job_is (goal.at.put_outcome-requires c).After-decided_alone-state)) (decided_kept c.args.table c.requires)

pub returns : goal.returns
returns c =
    rw (← decided_handed c.args.table (length c.args.out.now) (job_is (goal.at.returns c).After-decided_alone-state)) c.put_outcome.ensures
