-- `write::rows_length` meets its contract. The loop's invariant: to the bytes of the list's length those of the pairs of the rows below `row`
-- are added. Assumes nothing.
use mathlib.Core.Path.{◌≡◌, ◌∙◌, ap}
use Prim.Native.Nat.{ℕ, ◌<◌}
use native.Mathlib.Omega.{arith}
use lib.ListN.{length, get_or, length-append, length-take}
use lib.Seq.{get_or-take}
use Rattle.codec.proofs.NumberLaws.{number_length}
use Rattle.codec.proofs.PairLaws.{pairs_zero}
use Rattle.codec.specs.RowList.{pair_bytes}
use Rattle.rowlists.proofs.RowParts.{pair_of, pairs_next, pair_most, pairs_most, list_of_rows}
use Rattle.rowlists.proofs.write.rows_length.Goals as goal
use Rattle.rowlists.proofs.write.rows_length.Goals.{After-pair_length-length}

pub loop-row-init : goal.loop-row-init
loop-row-init c = rw pairs_zero (omega arith)

-- what the call says of the pair of a row
pair_is : (c : After-pair_length-length) → c.pair_length-length.result ≡ length (pair_of c.args.counts.now c.loop-row.row)
pair_is c =
    let counts = c.args.counts.now in
    let row = c.loop-row.row in
    let below : row < c.args.rows = omega (arith, length-take c.args.rows counts) in
    c.pair_length-length.ensures ∙ ap (λ (count : ℕ). length (pair_bytes row count)) (get_or-take c.args.rows counts row 0 below)

pub overflow_add-length : goal.overflow_add-length
overflow_add-length c =
    let counts = c.args.counts.now in
    let row = c.loop-row.row in
    let here = pair_is (goal.at.overflow_add-length c).After-pair_length-length in
    omega (arith, pairs_most counts row, here, pair_most row (get_or counts row 0), number_length c.filled.result, length-take c.args.rows counts)

pub loop-row-preserved : goal.loop-row-preserved
loop-row-preserved c =
    let counts = c.args.counts.now in
    let row = c.loop-row.row in
    let here = pair_is (goal.at.loop-row-preserved c).After-pair_length-length in
    rw (pairs_next counts row, length-append) (omega (arith, here))

pub returns : goal.returns
returns c =
    let a = c.args in
    let end : c.loop-row.row ≡ a.rows = omega (arith, length-take a.rows a.counts.now) in
    rw (list_of_rows a.counts.now a.rows c.requires.0 c.requires.1, length-append, c.loop-row.invariant, end, c.number_length-length.ensures, c.filled.ensures)
