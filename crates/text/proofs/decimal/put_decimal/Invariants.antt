-- `decimal::put_decimal` meets its contract. The loop's invariant: `here` is the position behind the digits of `rest`, and those written at
-- their place make the whole text. The measure is `rest`. Assumes nothing.
use mathlib.Core.Path.{◌≡◌}
use Prim.Native.Nat.{◌+◌, ◌≤◌}
use lib.ListN.{length}
use Rattle.codec.specs.Written.{written_at}
use Rattle.text.specs.Text.{decimal}
use Rattle.text.proofs.decimal.put_decimal.Given as goal

abbrev pub invariant-loop-rest : goal.invariant-loop-rest
invariant-loop-rest l =
    (l.rest ≤ l.x)
    × (l.here ≡ l.at + length (decimal l.rest))
    × (l.here ≤ length l.out)
    × (length l.out ≡ length l.initial.out)
    × (written_at l.out l.at (decimal l.rest) ≡ written_at l.initial.out l.at (decimal l.x))

abbrev pub decreases-loop-rest : goal.decreases-loop-rest
decreases-loop-rest l = l.rest
