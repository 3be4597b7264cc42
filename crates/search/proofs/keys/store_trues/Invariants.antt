-- `keys::store_trues` meets its contract. The loop's invariant: `ones` holds what it is to hold of the rows below `row`. Assumes nothing.
use mathlib.Core.Path.{◌≡◌}
use mathlib.Core.Bool.{false}
use lib.ListN.{length, get_or}
use Rattle.numbers.specs.Tabulate.{Holds}
use Rattle.search.proofs.KeyLaws.{one_from}
use Rattle.search.proofs.keys.store_trues.Given as goal

abbrev pub invariant-loop-row : goal.invariant-loop-row
invariant-loop-row l = (length l.ones ≡ 256) × Holds (λ r. one_from false (get_or l.trues r false)) l.row l.ones
