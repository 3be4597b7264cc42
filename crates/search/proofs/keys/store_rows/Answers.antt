-- `keys::store_rows` meets its contract: where no byte of the care bits has a bit that is 0, every row is cared for. Assumes nothing.
use Rattle.search.proofs.keys.store_rows.Goals as goal

pub store_trues-requires : goal.store_trues-requires
store_trues-requires c = record { n_bound = (c.requires.0, c.some_free.ensures c.if-some_free.false); trues_are = (c.lane_trues-trues.ensures, c.requires.1) }

pub returns-then-some_free : goal.returns-then-some_free
returns-then-some_free c = (c.store_ones.ensures, c.store_keys.ensures)

pub returns-else-some_free : goal.returns-else-some_free
returns-else-some_free c = (c.store_trues.ensures, c.store_keys.ensures)
