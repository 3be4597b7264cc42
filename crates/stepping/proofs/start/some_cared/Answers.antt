-- `start::some_cared` meets its contract: at the vector 0 a row fails exactly if it is cared for. Assumes nothing.
use mathlib.Core.Path.{sym, ◌∙◌, ap}
use native.Mathlib.Omega.{arith}
use Rattle.std.specs.Prelude.{is_some}
use Rattle.numbers.proofs.FirstLaws.{first_at, first_fails}
use Rattle.table.specs.Table.{rows, cared}
use Rattle.table.proofs.OnTables.{zero_failing}
use Rattle.stepping.proofs.start.some_cared.Goals as goal

pub returns-then-row_cared : goal.returns-then-row_cared
returns-then-row_cared c =
    let t = c.args.table in
    sym
    (ap is_some
    (zero_failing t
    ∙ first_at (cared t) (rows t) 0 c.loop-row.row
    record {
      start = omega arith;
      inside = omega (arith, c.row_count-row-end.ensures);
      passes = sym c.row_cared.ensures ∙ c.if-row_cared.true;
      before = λ r l h. c.loop-row.invariant r h;
    }))

pub returns : goal.returns
returns c =
    let t = c.args.table in
    sym (ap is_some (zero_failing t ∙ first_fails (cared t) (rows t) 0 (λ r l h. c.loop-row.invariant r (omega (arith, c.row_count-row-end.ensures)))))
