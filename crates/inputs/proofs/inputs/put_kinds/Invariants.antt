-- `inputs::put_kinds` meets its contract. The loop's invariant: the bytes of the places below `place` are stored. Assumes nothing.
use mathlib.Core.Path.{◌≡◌}
use lib.ListN.{get_or}
use Rattle.numbers.proofs.TabulateLaws.{filled}
use Rattle.inputs.specs.Inputs.{input_bytes}
use Rattle.inputs.proofs.inputs.put_kinds.Given as goal

abbrev pub invariant-loop-place : goal.invariant-loop-place
invariant-loop-place l = l.out ≡ filled (λ i. get_or (input_bytes l.fn.kinds) i 0) l.initial.out l.place
