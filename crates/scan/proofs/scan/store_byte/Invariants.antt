-- `scan::store_byte` meets its contract. The loop's invariant: the rows before bit `bit` of the byte have their values. Assumes nothing.
use mathlib.Core.Path.{◌≡◌}
use Prim.Native.Nat.{◌+◌, ◌*◌}
use Rattle.scan.specs.Scan.{values_below}
use Rattle.scan.proofs.scan.store_byte.Given as goal

abbrev pub invariant-loop-bit : goal.invariant-loop-bit
invariant-loop-bit l = l.values ≡ values_below (8 * l.at + l.bit) l.bytes
