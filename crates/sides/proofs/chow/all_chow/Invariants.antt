-- `chow::all_chow` meets its contract. The loop's invariant: `q` is filled below `place`. Assumes nothing.
use mathlib.Core.Path.{◌≡◌}
use Rattle.numbers.proofs.TabulateLaws.{filled}
use Rattle.table.specs.Chow.{chow_at}
use Rattle.sides.proofs.chow.all_chow.Given as goal

abbrev pub invariant-loop-place : goal.invariant-loop-place
invariant-loop-place l = l.value-items ≡ filled (chow_at l.table) l.initial.value-items l.place
