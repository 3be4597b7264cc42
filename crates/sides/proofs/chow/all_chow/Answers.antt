-- `chow::all_chow` meets its contract. The loop's invariant: `q` is filled below `place`. Assumes nothing.
use mathlib.Core.Path.{◌∙◌}
use native.Mathlib.Omega.{arith}
use lib.ListN.{replicate}
use lib.IntN.{pos}
use mir.Syntax.{w32}
use Rattle.numbers.proofs.Int.{back}
use Rattle.numbers.proofs.TabulateLaws.{filled_none, filled_more, filled_all}
use Rattle.table.specs.Chow.{chow_at, chow_of}
use Rattle.sides.proofs.chow.all_chow.Goals as goal

pub loop-place-init : goal.loop-place-init
loop-place-init c = filled_none (chow_at c.args.table) (replicate 8 (pos 0))

pub loop-place-preserved : goal.loop-place-preserved
loop-place-preserved c =
    let at_head = c.loop-place in
    let f = chow_at c.args.table in
    filled_more f (replicate 8 (pos 0)) at_head.place (omega arith) at_head.invariant (back w32 c.chow_at.type_inv ∙ c.chow_at.ensures)

pub returns : goal.returns
unfolding chow_of
returns c =
    let at_end_lem = c.loop-place in
    filled_all (chow_at c.args.table) (replicate 8 (pos 0)) at_end_lem.place 8 (omega arith) (omega arith) at_end_lem.invariant
