-- `inputs::put_chow` meets its contract. The loop's invariant: the bytes below `at` are stored. Assumes nothing.
use mathlib.Core.Path.{◌≡◌}
use lib.ListN.{get_or}
use Rattle.numbers.proofs.TabulateLaws.{filled}
use Rattle.inputs.specs.Inputs.{chow_bytes}
use Rattle.inputs.proofs.inputs.put_chow.Given as goal

abbrev pub invariant-loop-at : goal.invariant-loop-at
invariant-loop-at l = l.out ≡ filled (λ i. get_or (chow_bytes l.q) i 0) l.initial.out l.at
