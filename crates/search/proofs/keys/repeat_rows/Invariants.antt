-- `keys::repeat_rows` meets its contract. The loop's invariant: of the rows below 32 those below `row` have the bit that they repeat, and the
-- others are as they came. Assumes nothing.
use mathlib.Core.Path.{◌≡◌}
use mathlib.Core.Bool.{false}
use Prim.Native.Nat.{ℕ, ◌%◌, ◌≤◌, ◌<◌}
use lib.ListN.{get_or}
use Rattle.search.proofs.keys.repeat_rows.Given as goal

abbrev pub invariant-loop-row : goal.invariant-loop-row
invariant-loop-row l =
    ((q : ℕ) → q < l.row → q < 32 → get_or l.bits q false ≡ get_or l.initial.bits (q % l.rows) false)
    × ((q : ℕ) → 32 ≤ q → get_or l.bits q false ≡ get_or l.initial.bits q false)
