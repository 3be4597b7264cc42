-- `claims::what_is_decided_is_right`: the law of outcomes, where a slice of the code holds bytes. Assumes nothing.
use native.Mathlib.Omega.{arith}
use Rattle.claims.proofs.Decided.{decided_is_right}
use Rattle.claims.proofs.what_is_decided_is_right.Goals as goal

pub nothing-requires : goal.nothing-requires
nothing-requires c = tt

pub returns : goal.returns
returns c = decided_is_right c.args.bytes.now (λ i h. omega (arith, c.shared_slice_known-1.given i))
