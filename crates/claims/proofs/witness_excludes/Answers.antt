-- `claims::witness_excludes`: the theorem of summability. Assumes nothing.
use Rattle.table.specs.Table.{function_of}
use Rattle.function.proofs.Summability.{no_gate_lem}
use Rattle.claims.specs.Claims.{WitnessExcludes}
use Rattle.claims.proofs.witness_excludes.Goals as goal

pub returns : goal.returns
unfolding WitnessExcludes
returns c = λ t. no_gate_lem (function_of t)
