-- `rowlists::read::read_pairs` meets its contract. The loop's invariant: the pairs that are left, read from `next` on with what was read so
-- far, give what all of them give. Assumes nothing.
use mathlib.Core.Path.{◌≡◌}
use Prim.Native.Nat.{◌-◌}
use Rattle.function.specs.Witness.{zeros}
use Rattle.codec.specs.RowList.{pairs_at}
use Rattle.rowlists.proofs.read.read_pairs.Given as goal

abbrev pub invariant-loop : goal.invariant-loop
invariant-loop l =
    pairs_at l.strict l.rows (l.pairs - l.counter) l.lowest l.list l.bytes l.next
    ≡ pairs_at l.strict l.rows l.pairs 0 (record { counts = zeros; kept = l.fits }) l.bytes l.at
