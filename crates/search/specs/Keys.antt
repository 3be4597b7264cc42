-- The keys of rows, which are ordered as the rows are, and how the search compares them: the sign of a row's difference turns its key, and
-- the least key of a block counts. For the inside of the machine alone. Definitions only. Assumes nothing.
use Rattle.std.specs.Prelude.{Bool, cond, ◌&&◌, List, ℕ, zero, suc, ◌+◌, ◌*◌, get_or, ℤ, pos, ◌+ℤ◌, ◌-ℤ◌}
use Rattle.std.specs.Int.Signed.{lt_z}
use Rattle.types.specs.declared.table.Table.{Table}
use Rattle.lanes.specs.Blocks.{lane_value, lane_cared}

-- what is taken from a row's distance, so that a true row fails where the difference is negative and a false row where it is not. A row that is
-- not cared for goes as a false row whose difference is always negative: distances are within 16,000
unfoldable pub one_of : Table → ℕ → ℤ
one_of t r = cond (lane_cared t r) (cond (lane_value t r) (pos 1) (pos 0)) (pos 16384)

-- whether a row goes as a true one
abbrev pub goes_true : Table → ℕ → Bool
goes_true t r = lane_cared t r && lane_value t r

-- the key of a row that does not fail where its difference is not negative: its code, and for a row that goes as a false one 32,768 less
unfoldable pub key_of : Table → ℕ → ℤ
key_of t r = cond (goes_true t r) (pos (2 * r + 1)) (pos (2 * r) -ℤ pos 32768)

-- a number of 16 bits with its sign bit flipped
unfoldable pub flipped : ℤ → ℤ
flipped key = cond (lt_z key (pos 0)) (key +ℤ pos 32768) (key -ℤ pos 32768)

-- the key of a row, flipped where its difference is negative
unfoldable pub flipped_by : ℤ → ℤ → ℤ
unfolding flipped
flipped_by difference key = cond (lt_z difference (pos 0)) (flipped key) key

-- the least of 32,767 and of the m first values
unfoldable pub least_below : ℕ → (ℕ → ℤ) → ℤ
least_below zero f = pos 32767
least_below (suc m) f = let least = least_below m f in cond (lt_z (f m) least) (f m) least

-- the flipped key of row q of a block: its distance is its own sum and that of the higher inputs
unfoldable pub block_key : List ℤ → ℤ → List ℤ → List ℤ → ℕ → ℤ
unfolding flipped flipped_by
block_key sums high ones keys q = flipped_by (get_or sums q (pos 0) +ℤ high -ℤ get_or ones q (pos 0)) (get_or keys q (pos 0))
