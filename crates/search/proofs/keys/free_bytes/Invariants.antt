-- `keys::free_bytes` meets its contract. The loop's invariant: the bytes below `at` are stored. Assumes nothing.
use mathlib.Core.Path.{◌≡◌}
use Prim.Native.Nat.{◌-◌, ◌^◌}
use lib.ListN.{get_or, replicate}
use Rattle.numbers.proofs.TabulateLaws.{filled}
use Rattle.search.proofs.keys.free_bytes.Given as goal

abbrev pub invariant-loop-at : goal.invariant-loop-at
invariant-loop-at l = l.frees ≡ filled (λ i. 2 ^ 8 - 1 - get_or l.table.cares i 0) (replicate 32 0) l.at
