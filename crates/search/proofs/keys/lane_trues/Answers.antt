-- `keys::lane_trues` meets its contract: the bits of the bytes, at the rows that the blocks' rows repeat. Assumes nothing.
use mathlib.Core.Path.{◌∙◌}
use Prim.Native.Nat.{◌%◌}
use native.Mathlib.Nat.{mod-lt}
use lib.Pow.{pow_pos}
use Rattle.table.specs.Table.{rows}
use Rattle.lanes.specs.Blocks.{lane_cared, lane_value}
use Rattle.search.proofs.keys.lane_trues.Goals as goal

pub returns : goal.returns
unfolding lane_cared lane_value
returns c r l =
    let t = c.args.table in
    c.lane_bits.ensures r l
    ∙ c.true_bytes-trues.ensures (r % rows t) (mod-lt r (pow_pos t.n))
