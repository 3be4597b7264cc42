-- `inputs::input_kind_at` meets its contract: past n a place is idle, and else the two searches say the kind. Assumes nothing.
use mathlib.Core.Path.{sym, ◌∙◌, ap, ap₂}
use Rattle.table.specs.Inputs.{kind_by}
use Rattle.std.specs.Prelude.{is_some}
use Rattle.table.proofs.InputLaws.{input_kind_at_inside, input_kind_at_past}
use Rattle.rowwise.proofs.inputs.input_kind_at.Goals as goal

pub returns-then-table-place : goal.returns-then-table-place
returns-then-table-place c = sym (input_kind_at_past c.args.table c.args.place c.if-table-place.true)

pub returns : goal.returns
returns c =
    c.kind_by.ensures
    ∙ ap₂ kind_by (c.is_some-rises.ensures ∙ ap is_some c.first_turn.ensures) (c.is_some-falls.ensures ∙ ap is_some c.first_turn-2.ensures)
    ∙ sym (input_kind_at_inside c.args.table c.args.place c.if-table-place.false)
