-- `write::put_rows` meets its contract. The loop's invariant: behind the list's length the pairs of the rows below `row` are written, and `here`
-- is the position behind them. Assumes nothing.
use mathlib.Core.Path.{◌≡◌, sym}
use mathlib.Core.List.{List, ◌++◌}
use Prim.Native.Nat.{ℕ, ◌+◌, ◌≤◌, ◌<◌}
use native.Mathlib.Omega.{arith}
use lib.ListN.{length, get_or, take, length-append, length-take}
use lib.Seq.{get_or-take}
use Rattle.numbers.proofs.TestLaws.{all_at_most_at}
use Rattle.table.specs.Witness.{count_limit}
use Rattle.codec.specs.Number.{number_bytes}
use Rattle.codec.specs.RowList.{filled_from, row_list_bytes}
use Rattle.codec.proofs.PairLaws.{pairs_zero, filled_most}
use Rattle.codec.specs.Written.{Room, Put}
use Rattle.codec.proofs.WrittenLaws.{written_nil, written_room, written_next, next_room, next_written}
use Rattle.rowlists.proofs.RowParts.{pairs, pair_of, pairs_next, list_of_rows}
use Rattle.rowlists.proofs.write.put_rows.Goals as goal
use Rattle.rowlists.proofs.write.put_rows.Goals.{After-put_number-here, Start}

-- the bytes of the list's length
abbrev first_bytes : List ℕ → ℕ → List ℕ
first_bytes counts rows = number_bytes (filled_from counts rows 0)

-- and of all its pairs
module _ (counts : List ℕ) (rows : ℕ) (out : List ℕ) where
  room : row_list_bytes counts ≡ first_bytes counts rows ++ pairs counts rows → Room out 0 (row_list_bytes counts)
      → Room out 0 (first_bytes counts rows ++ pairs counts rows)
  room list h = rw list at h

  first_room : Room out 0 (first_bytes counts rows ++ pairs counts rows) → Room out 0 (first_bytes counts rows)
  first_room h = omega (arith, h, length-append (first_bytes counts rows) (pairs counts rows))

list : (c : Start) → row_list_bytes c.args.counts.now ≡ first_bytes c.args.counts.now c.args.rows ++ pairs c.args.counts.now c.args.rows
list c = list_of_rows c.args.counts.now c.args.rows c.requires.0 c.requires.1

all_room : (c : Start) → Room c.args.out.now 0 (first_bytes c.args.counts.now c.args.rows ++ pairs c.args.counts.now c.args.rows)
all_room c = room c.args.counts.now c.args.rows c.args.out.now (list c) c.requires.3

pub put_number-here-requires : goal.put_number-here-requires
put_number-here-requires c =
    let a = c.args in
    rw c.filled.ensures
    (omega (arith, filled_most a.counts.now a.rows 0), first_room a.counts.now a.rows a.out.now (all_room (goal.at.put_number-here-requires c).Start))

-- the list's length is written, and there is room for all pairs behind it
opened : (c : After-put_number-here) → Put c.args.out.now 0 (first_bytes c.args.counts.now c.args.rows) c.put_number-here.new.out c.put_number-here.result
opened c = rw c.filled.ensures at c.put_number-here.ensures

rest_room : (c : After-put_number-here) → c.put_number-here.result + length (pairs c.args.counts.now c.args.rows) ≤ length c.put_number-here.new.out
rest_room c =
    let a = c.args in
    let fits = room a.counts.now a.rows a.out.now (list_of_rows a.counts.now a.rows c.requires.0 c.requires.1) c.requires.3 in
    written_room a.out.now 0 (first_bytes a.counts.now a.rows) (pairs a.counts.now a.rows) fits (opened c)

pub loop-row-init : goal.loop-row-init
loop-row-init c =
    let call = c.put_number-here in
    rw pairs_zero (omega arith, sym (written_nil call.new.out call.result))

-- the count of a row
module _ (counts : List ℕ) (rows row : ℕ) (h : row < length (take rows counts)) where
  below : row < rows
  below = omega (arith, length-take rows counts)

  count_is : get_or (take rows counts) row 0 ≡ get_or counts row 0
  count_is = get_or-take rows counts row 0 below

pub put_pair-here-requires : goal.put_pair-here-requires
put_pair-here-requires c =
    let counts = c.args.counts.now in
    let rows = c.args.rows in
    let row = c.loop-row.row in
    let h = below counts rows row c.loop-row-test.true in
    rw (count_is counts rows row c.loop-row-test.true) (
      omega arith,
      omega (arith, all_at_most_at count_limit counts c.requires.2 row),
      next_room (pairs counts) (pair_of counts) (pairs_next counts) rows c.put_number-here.new.out c.put_number-here.result (rest_room (goal.at.put_pair-here-requires c).After-put_number-here) row h c.loop-row.invariant,
    )

pub loop-row-preserved : goal.loop-row-preserved
loop-row-preserved c =
    let counts = c.args.counts.now in
    let rows = c.args.rows in
    let row = c.loop-row.row in
    let wrote = rw (count_is counts rows row c.loop-row-test.true) at c.put_pair-here.ensures in
    next_written (pairs counts) (pair_of counts) (pairs_next counts) rows c.put_number-here.new.out c.put_number-here.result (rest_room (goal.at.loop-row-preserved c).After-put_number-here) row (below counts rows row c.loop-row-test.true) c.loop-row.invariant wrote

pub returns : goal.returns
returns c =
    let a = c.args in
    let end : c.loop-row.row ≡ a.rows = omega (arith, length-take a.rows a.counts.now) in
    let at = goal.at.returns c in
    let all = written_next a.out.now 0 (first_bytes a.counts.now a.rows) (pairs a.counts.now a.rows) (all_room at.Start) (opened at.After-put_number-here) (rw end at c.loop-row.invariant) in
    rw (list at.Start) all
