use Rattle.std.proofs.Common.{◌<◌, ◌^◌}
use Rattle.testing.proofs.make.number.Given as goal

abbrev pub invariant-loop-letter : goal.invariant-loop-letter
invariant-loop-letter l = l.value < 2 ^ 32
