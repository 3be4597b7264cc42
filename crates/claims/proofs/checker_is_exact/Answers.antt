-- `claims::checker_is_exact`. Assumes nothing.
use Rattle.claims.proofs.Checker.{gate_exact, witness_exact}
use Rattle.claims.proofs.checker_is_exact.Goals as goal

pub returns : goal.returns
returns c = record { gate = gate_exact; witness = witness_exact }
