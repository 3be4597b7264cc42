-- `decimal::digit_count` meets its contract. The loop's invariant: the digits of `rest` and those that are counted, the first twice, are as
-- many as those of x. The measure is `rest`. Assumes nothing.
use mathlib.Core.Path.{ap}
use native.Mathlib.Omega.{arith}
use lib.ListN.{length}
use Rattle.text.proofs.DecimalLaws.{decimal_one, decimal_less, decimal_twenty}
use Rattle.text.proofs.decimal.digit_count.Goals as goal

pub overflow_add-count : goal.overflow_add-count
overflow_add-count c = omega (arith, decimal_twenty c.args.x)

pub loop-rest-preserved : goal.loop-rest-preserved
loop-rest-preserved c = omega (arith, decimal_less c.loop-rest.rest (omega arith) (omega arith))

pub returns : goal.returns
returns c = omega (arith, ap length (decimal_one c.loop-rest.rest (omega arith)))
