-- `claims::carry_on_is_the_machine`: an accepted call is a run, and runs add up. Assumes nothing.
use Rattle.job.proofs.DecidedLaws.{decided_carried}
use Rattle.claims.proofs.CarryOn.{carried_on_lem, growth, twice, kept}
use Rattle.claims.proofs.carry_on_is_the_machine.Goals as goal

pub returns : goal.returns
returns c = record { job = carried_on_lem; growth = growth; sum = twice; decided = decided_carried; kept = kept }
