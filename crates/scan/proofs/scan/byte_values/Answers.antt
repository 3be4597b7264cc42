-- `scan::byte_values` meets its contract. The loop's invariant: the rows of the bytes before `byte` have their values. Assumes nothing.
use Rattle.scan.proofs.ValueLaws.{values_none}
use Rattle.scan.proofs.scan.byte_values.Goals as goal

pub loop-byte-init : goal.loop-byte-init
loop-byte-init c = values_none c.args.bytes.now
