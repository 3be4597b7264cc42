-- `claims::what_is_read_is_written`: the law of records, where a slice of the code holds bytes. Assumes nothing.
use native.Mathlib.Omega.{arith}
use Rattle.writers.proofs.WriteBack.{write_back}
use Rattle.claims.proofs.what_is_read_is_written.Goals as goal

pub nothing-requires : goal.nothing-requires
nothing-requires c = tt

pub returns : goal.returns
returns c = write_back c.args.bytes.now (λ i h. omega (arith, c.shared_slice_known-1.given i))
