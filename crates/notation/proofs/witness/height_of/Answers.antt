-- `witness::height_of` meets its contract. The loop's invariant: `sum` is what the rows below `row` add, each at most 8 × (2^32 - 1). There
-- are at most 256 rows, so the sum fits. Assumes nothing.
use mathlib.Core.Path.{◌≡◌, sym, ◌∙◌, ap}
use Prim.Native.Nat.{ℕ}
use native.Mathlib.Numerals.{add-one}
use native.Mathlib.Omega.{arith}
use Rattle.std.proofs.lemmas.List.{get_or-take}
use Rattle.numbers.specs.Sum.{sum_below}
use Rattle.numbers.proofs.SumLaws.{sum_below_zero, sum_below_suc}
use Rattle.table.specs.Table.{rows}
use Rattle.table.proofs.TableLaws.{rows_le}
use Rattle.notation.proofs.HeightLaws.{height_term, height_terms}
use Rattle.notation.proofs.witness.height_of.Goals as goal

pub loop-row-init : goal.loop-row-init
loop-row-init c = (omega arith, sym (sum_below_zero _))

pub loop-row-preserved : goal.loop-row-preserved
loop-row-preserved c =
    let a = c.args in
    let row = c.loop-row.row in
    let more = rw (get_or-take (rows a.table) a.counts.now row 0 (omega arith)) at rw c.row_count.ensures at c.height_term-sum.ensures in
    (omega (arith, more.1), rw (add-one, sum_below_suc, ← c.loop-row.invariant.1, more.0))

pub returns : goal.returns
returns c =
    let a = c.args in
    let most = rows_le c.requires in
    let all : c.loop-row.row ≡ rows a.table = omega arith in
    c.loop-row.invariant.1
    ∙ ap (λ (m : ℕ). sum_below m (height_term a.table.bytes a.counts.now)) all
    ∙ sym (height_terms a.table a.counts.now c.requires)
