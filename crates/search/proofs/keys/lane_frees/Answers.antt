-- `keys::lane_frees` meets its contract: the bits of the bytes, at the rows that the blocks' rows repeat. Assumes nothing.
use mathlib.Core.Path.{◌∙◌}
use Prim.Native.Nat.{◌%◌}
use native.Mathlib.Nat.{mod-lt}
use lib.Pow.{pow_pos}
use Rattle.table.specs.Table.{rows}
use Rattle.lanes.specs.Blocks.{lane_cared}
use Rattle.search.proofs.keys.lane_frees.Goals as goal

pub returns : goal.returns
unfolding lane_cared
returns c r l =
    let t = c.args.table in
    c.lane_bits.ensures r l
    ∙ c.free_bytes-frees.ensures (r % rows t) (mod-lt r (pow_pos t.n))
