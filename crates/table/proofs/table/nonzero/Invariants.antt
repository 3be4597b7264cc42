-- `table::nonzero` meets its contract. The loop's invariant: where no bit is gathered, the bytes passed are 0; and where all bytes are 0, none is
-- gathered. Assumes nothing.
use Rattle.std.proofs.Common.{◌≡◌, ℕ, ◌<◌, length, get_or}
use Rattle.table.proofs.table.nonzero.Given as goal

abbrev pub invariant-loop-byte : goal.invariant-loop-byte
invariant-loop-byte l =
    (l.set ≡ 0 → (k : ℕ) → k < l.byte-index → get_or l.bytes k 0 ≡ 0)
    × (((k : ℕ) → k < length l.bytes → get_or l.bytes k 0 ≡ 0) → l.set ≡ 0)
