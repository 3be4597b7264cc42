-- `claims::checked_witness_excludes`: an accepted witness balances, and a balanced one excludes every gate. Assumes nothing.
use Rattle.function.specs.Witness.{count_of}
use Rattle.function.proofs.Summability.{no_gate_lem}
use Rattle.claims.specs.Claims.{CheckedWitnessExcludes}
use Rattle.claims.proofs.Checker.{accepted_balances}
use Rattle.table.specs.Table.{function_of}
use Rattle.claims.proofs.checked_witness_excludes.Goals as goal

pub returns : goal.returns
unfolding CheckedWitnessExcludes
returns c = λ t w e. no_gate_lem (function_of t) (count_of w.counts) (accepted_balances t w e)
