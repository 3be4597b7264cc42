-- `keys::store_keys` meets its contract. The loop's invariant: `keys` holds what it is to hold of the rows below `row`. Assumes nothing.
use mathlib.Core.Path.{◌≡◌}
use mathlib.Core.Bool.{false}
use lib.ListN.{length, get_or}
use Rattle.numbers.specs.Tabulate.{Holds}
use Rattle.search.proofs.KeyLaws.{key_by}
use Rattle.search.proofs.keys.store_keys.Given as goal

abbrev pub invariant-loop-row : goal.invariant-loop-row
invariant-loop-row l = (length l.keys ≡ 256) × Holds (λ r. key_by (get_or l.trues r false) r) l.row l.keys
