-- `scan::byte_values` meets its contract. The loop's invariant: the rows of the bytes before `byte` have their values. Assumes nothing.
use mathlib.Core.Path.{◌≡◌}
use Prim.Native.Nat.{◌*◌}
use Rattle.scan.specs.Scan.{values_below}
use Rattle.scan.proofs.scan.byte_values.Given as goal

abbrev pub invariant-loop-byte : goal.invariant-loop-byte
invariant-loop-byte l = l.values ≡ values_below (8 * l.byte) l.bytes
