-- `table::stray_value` meets its contract. The loop's invariant: where no bit is gathered, the rows of the bytes below `at` have no value bit or are
-- cared for; and where no value is astray, none is gathered. Assumes nothing.
use Rattle.std.proofs.Common.{◌≡◌, ℕ, ◌*◌, ◌<◌, true, false}
use Rattle.table.specs.Table.{stray_value}
use Rattle.table.proofs.CareLaws.{kept_at}
use Rattle.table.proofs.table.stray_value.Given as goal

abbrev pub invariant-loop-at : goal.invariant-loop-at
invariant-loop-at l = (l.stray ≡ 0 → (r : ℕ) → r < 8 * l.at → kept_at l.table r ≡ true) × (stray_value l.table ≡ false → l.stray ≡ 0)
