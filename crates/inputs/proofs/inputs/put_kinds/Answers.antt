-- `inputs::put_kinds` meets its contract: eight bytes fit or are refused. Assumes nothing.
use mathlib.Core.Path.{◌≡◌, sym, ◌∙◌}
use Prim.Native.Nat.{◌<◌}
use Rattle.std.proofs.lemmas.List.{get_or-map}
use native.Mathlib.Omega.{arith}
use lib.ListN.{length, length-map}
use borrow.Author.Rules.{rules}
use Rattle.numbers.proofs.TabulateLaws.{filled_none, filled_more}
use Rattle.types.specs.declared.inputs.InputKind.TheVariants.{Idle}
use Rattle.results.proofs.ResultLaws.{wrote_short}
use Rattle.inputs.specs.Inputs.{input_byte, input_bytes}
use Rattle.inputs.proofs.ByteLaws.{stored_all}
use Rattle.inputs.proofs.inputs.put_kinds.Goals as goal
use Rattle.inputs.proofs.inputs.put_kinds.Goals.{Start}

-- eight bytes
count : (c : Start) → length (input_bytes c.args.kinds) ≡ 8
count c = let eight : length c.args.kinds ≡ 8 = search rules in length-map c.args.kinds input_byte ∙ eight

pub returns-then-out-lt8 : goal.returns-then-out-lt8
returns-then-out-lt8 c = wrote_short c.args.out.now (input_bytes c.args.kinds) (count (goal.at.returns-then-out-lt8 c).Start) (omega arith)

pub loop-place-init : goal.loop-place-init
loop-place-init c = filled_none _ _

pub loop-place-preserved : goal.loop-place-preserved
loop-place-preserved c =
    let place = c.loop-place.place in
    let inside : place < length c.args.kinds = search rules in
    filled_more _ c.args.out.now place (omega arith) c.loop-place.invariant (c.input_byte.ensures ∙ sym (get_or-map input_byte c.args.kinds place Idle 0 inside))

pub returns : goal.returns
returns c = stored_all c.args.out.now (input_bytes c.args.kinds) (count (goal.at.returns c).Start) (omega arith) (omega arith) c.loop-place.invariant
