-- `write::pair_length` meets its contract: a number takes at most three bytes, so that the sum fits. Assumes nothing.
use native.Mathlib.Omega.{arith}
use Rattle.codec.proofs.NumberLaws.{number_length}
use Rattle.rowlists.proofs.write.pair_length.Goals as goal

pub overflow_add-result : goal.overflow_add-result
overflow_add-result c = omega (arith, number_length c.args.row, number_length c.args.count)
