-- `keys::true_bytes` meets its contract. The loop's invariant: the bytes below `at` are stored. Assumes nothing.
use mathlib.Core.Path.{◌≡◌}
use lib.Bits.{bit_and}
use lib.ListN.{get_or, replicate}
use Rattle.numbers.proofs.TabulateLaws.{filled}
use Rattle.search.proofs.keys.true_bytes.Given as goal

abbrev pub invariant-loop-at : goal.invariant-loop-at
invariant-loop-at l = l.trues ≡ filled (λ i. bit_and (get_or l.table.cares i 0) (get_or l.table.bytes i 0)) (replicate 32 0) l.at
