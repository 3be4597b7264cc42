-- `sound::has_binate_counts` meets its contract: the place that the search has found is below n, and the counts are compared by their test.
-- Assumes nothing.
use Rattle.std.proofs.Common.{sym}
use Rattle.function.proofs.BinateLaws.{binate_place_lt}
use Rattle.table.specs.Table.{function_of}
use Rattle.soundness.proofs.sound.has_binate_counts.Goals as goal

pub binate_counts-requires : goal.binate_counts-requires
binate_counts-requires c = (c.requires, binate_place_lt (function_of c.args.table) _ (sym c.in-Some.ensures))

pub returns : goal.returns
returns c = rw (sym c.in-Some.ensures, sym c.binate_counts.ensures) c.same_counts.ensures
