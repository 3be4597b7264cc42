-- `claims::marked_cases`: computed. Assumes nothing.
use Rattle.theory.proofs.Cases.{marked_cases}
use Rattle.claims.proofs.marked_cases.Goals as goal

pub returns : goal.returns
returns c = marked_cases
