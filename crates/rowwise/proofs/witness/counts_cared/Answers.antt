-- `witness::counts_cared` meets its contract. The loop's invariant: the rows below `row` are cared for or have no count. Assumes nothing.
use mathlib.Core.Path.{◌≡◌, sym, ◌∙◌, ap}
use Prim.Native.Nat.{ℕ, ◌<◌}
use mathlib.Core.Bool.{◌||◌}
use lib.Dec.{eqb}
use lib.ListN.{length}
use borrow.Author.Rules.{rules}
use Rattle.std.proofs.lemmas.List.{get_or-take, length-take-le}
use Rattle.table.specs.Table.{cared}
use native.Mathlib.Omega.{arith}
use Rattle.numbers.proofs.TestLaws.{all_below_zero, all_below_more}
use Rattle.table.specs.Table.{rows}
use Rattle.table.proofs.TableLaws.{rows_le}
use Rattle.rowwise.proofs.witness.counts_cared.Goals as goal
use Rattle.rowwise.proofs.witness.counts_cared.Goals.{After-may_count}
use Rattle.rowwise.proofs.witness.counts_cared.Invariants.{allowed, cared_all, cared_fails, cared_whole}

pub loop-row-init : goal.loop-row-init
loop-row-init c = all_below_zero _

-- what the call says of the count, which is one of the table's rows
tested : (c : After-may_count) → allowed c.args.table c.args.counts.now c.loop-row.row ≡ c.may_count.result
tested c = sym (c.may_count.ensures ∙ ap (λ (count : ℕ). cared c.args.table c.loop-row.row || eqb count 0) (get_or-take c.row_count-rows.result c.args.counts.now c.loop-row.row 0 (omega arith)))

pub returns-then-not-some_free : goal.returns-then-not-some_free
returns-then-not-some_free c =
    let a = c.args in
    sym (cared_whole a.table a.counts.now (c.some_free.ensures c.if-not-some_free.true))

pub returns-then-not-may_count : goal.returns-then-not-may_count
returns-then-not-may_count c =
    let a = c.args in
    let size : length a.counts.now ≡ 256 = search rules in
    let below : c.loop-row.row < rows a.table = omega (arith, c.row_count-rows.ensures, length-take-le c.row_count-rows.result a.counts.now (omega (arith, size, c.row_count-rows.ensures, rows_le c.requires))) in
    sym (cared_fails a.table a.counts.now _ below (tested (goal.at.returns-then-not-may_count c).After-may_count ∙ c.if-not-may_count.true))

pub loop-row-preserved : goal.loop-row-preserved
loop-row-preserved c = all_below_more c.loop-row.row _ c.loop-row.invariant (tested (goal.at.loop-row-preserved c).After-may_count ∙ c.if-not-may_count.false)

pub returns : goal.returns
returns c =
    let a = c.args in
    let size : length a.counts.now ≡ 256 = search rules in
    let long = length-take-le c.row_count-rows.result a.counts.now (omega (arith, size, c.row_count-rows.ensures, rows_le c.requires)) in
    let end : c.loop-row.row ≡ rows a.table = omega (arith, c.row_count-rows.ensures) in
    sym (cared_all a.table a.counts.now (rw end at c.loop-row.invariant))
