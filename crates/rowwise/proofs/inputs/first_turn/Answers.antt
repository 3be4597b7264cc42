-- `inputs::first_turn` meets its contract: the first row that turns is the lowest. Assumes nothing.
use mathlib.Core.Path.{refl, sym, ◌∙◌}
use native.Mathlib.Omega.{arith}
use Rattle.numbers.proofs.FirstLaws.{first_at, first_fails}
use Rattle.table.specs.Table.{rows, function_of}
use Rattle.function.specs.Turns.{turns_at}
use Rattle.function.proofs.TurnLaws.{first_turn_search}
use Rattle.rowwise.proofs.inputs.first_turn.Goals as goal

pub returns-then-turns_at : goal.returns-then-turns_at
returns-then-turns_at c =
    let a = c.args in
    let turns = turns_at (function_of a.table) a.to a.place in
    sym
    (first_turn_search (function_of a.table) a.to a.place
    ∙ first_at turns (rows a.table) 0 c.loop-row.row
    record {
      start = omega arith;
      inside = omega (arith, c.row_count-rows.ensures);
      passes = sym (c.turns_at.ensures a.table refl refl) ∙ c.if-turns_at.true;
      before = λ r l h. c.loop-row.invariant r h;
    })

pub returns : goal.returns
returns c =
    let a = c.args in
    let turns = turns_at (function_of a.table) a.to a.place in
    sym
    (first_turn_search (function_of a.table) a.to a.place
    ∙ first_fails turns (rows a.table) 0 (λ r l h. c.loop-row.invariant r (omega (arith, c.row_count-rows.ensures))))
