-- `sums::side_sums` meets its contract. The loop's invariant: the sums are what the rows below `row` add. Assumes nothing.
use mathlib.Core.Path.{◌≡◌, refl, sym, ◌∙◌, ap}
use mathlib.Core.Bool.{Bool}
use mathlib.Core.List.{List}
use Prim.Native.Nat.{ℕ, ◌+◌, ◌^◌, ◌<◌}
use native.Mathlib.Numerals.{add-one}
use native.Mathlib.Omega.{arith}
use Rattle.std.proofs.Common.{length-take, get_or-take}
use lib.ListN.{length, get_or, replicate, get_or-replicate}
use Rattle.numbers.specs.Tabulate.{tabulate}
use Rattle.numbers.proofs.SumLaws.{sum_below_zero, sum_below_suc}
use Rattle.numbers.proofs.TabulateLaws.{length_tabulate, tabulate_get_d, tabulate_ext}
use Rattle.types.specs.declared.table.Table.{Table}
use Rattle.table.specs.Table.{rows, function_of}
use Rattle.function.specs.Witness.{count_of}
use Rattle.table.proofs.TableLaws.{rows_le}
use Rattle.sides.proofs.SideLaws.{side_terms_le, sum_at}
use Rattle.function.proofs.WitnessLaws.{side_term, side_sum_terms}
use Rattle.sides.proofs.sums.side_sums.Goals as goal
use Rattle.sides.proofs.sums.side_sums.Goals.{At-loop-row, In-loop-row}
use Rattle.sides.proofs.sums.side_sums.Invariants.{sum_to}

-- with what row m adds they are what the rows below m + 1 add
row_added : (t : Table) (side : Bool) (counts : List ℕ) (m : ℕ) (sums : List ℕ) {next : List ℕ}
    → next ≡ tabulate 9 (λ i. get_or sums i 0 + side_term (function_of t) side (count_of counts) i m)
    → sums ≡ tabulate 9 (sum_to t side counts m)
    → next ≡ tabulate 9 (sum_to t side counts (m + 1))
row_added t side counts m sums e is =
    e ∙ tabulate_ext _ (sum_to t side counts (m + 1)) 9
    (λ i h. rw (add-one, sum_below_suc) (ap (λ (x : ℕ). x + side_term (function_of t) side (count_of counts) i m) (sum_at _ i is h)))

pub loop-row-init : goal.loop-row-init
loop-row-init c = λ t e. tabulate_get_d _ 9 0 (replicate 9 0) refl (λ i h. get_or-replicate 9 i 0 0 h ∙ sym (sum_below_zero _))

-- the sums are those of the table
sums_are : (c : At-loop-row) → let a = c.args in c.loop-row.sums ≡ tabulate 9 (sum_to a.table a.side a.counts.now c.loop-row.row)
sums_are c = c.loop-row.invariant c.args.table refl

-- the loop's rows are the table's
in_rows : (c : In-loop-row) → c.loop-row.row < rows c.args.table
in_rows c = omega (arith, c.row_count-rows.ensures, length-take c.row_count-rows.result c.args.counts.now)

-- each sum is below 2^40
sum_lt : (c : In-loop-row) (i : ℕ) → i < 9 → get_or c.loop-row.sums i 0 < 2 ^ 40
sum_lt c i h =
    let a = c.args in
    omega (
      arith,
      in_rows c,
      rows_le c.requires.0,
      sum_at _ i (sums_are c.before) h,
      side_terms_le a.table a.side (count_of a.counts.now) i 4294967295 (λ r. omega (arith, c.requires.1.fits r)) c.loop-row.row,
    )

pub add_row-requires : goal.add_row-requires
add_row-requires c =
    let head = (goal.at.add_row-requires c).In-loop-row in
    (omega (arith, in_rows head, rows_le c.requires.0), ap length (sums_are head.before) ∙ length_tabulate _ 9, sum_lt head)

pub loop-row-preserved : goal.loop-row-preserved
loop-row-preserved c =
    let a = c.args in
    let rows = c.row_count-rows.result in
    let row = c.loop-row.row in
    λ t e. row_added t a.side a.counts.now row c.loop-row.sums
    (rw (e, ← get_or-take rows a.counts.now row 0 (omega (arith, length-take rows a.counts.now))) c.add_row.ensures)
    (c.loop-row.invariant t e)

pub returns : goal.returns
returns c =
    let a = c.args in
    let all : c.loop-row.row ≡ rows a.table = omega (arith, c.row_count-rows.ensures, length-take c.row_count-rows.result a.counts.now, rows_le c.requires.0) in
    sums_are (goal.at.returns c).At-loop-row
    ∙ tabulate_ext _ _ 9
    (λ i h. ap (λ (m : ℕ). sum_to a.table a.side a.counts.now m i) all ∙ sym (side_sum_terms (function_of a.table) a.side (count_of a.counts.now) i))
