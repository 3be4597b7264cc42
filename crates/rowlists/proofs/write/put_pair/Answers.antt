-- `write::put_pair` meets its contract: a pair is its two numbers, one behind the other, and nothing where the count is 0. Assumes nothing.
use mathlib.Core.Path.{◌≡◌, sym}
use mathlib.Core.List.{List, ◌++◌}
use Prim.Native.Nat.{ℕ, ◌+◌, ◌≤◌}
use native.Mathlib.Omega.{arith}
use lib.ListN.{length, length-append}
use Rattle.codec.specs.Number.{number_bytes}
use Rattle.codec.specs.RowList.{pair_bytes}
use Rattle.codec.proofs.WrittenLaws.{written_nil, written_room, written_next}
use Rattle.codec.proofs.PairLaws.{pair_above}
use Rattle.rowlists.proofs.write.put_pair.Goals as goal
use Rattle.rowlists.proofs.write.put_pair.Goals.{Else-count-eq0}

pub returns-then-count-eq0 : goal.returns-then-count-eq0
returns-then-count-eq0 c =
    let a = c.args in
    rw c.if-count-eq0.true (omega arith, sym (written_nil a.out.now a.at))

abbrev row_bytes : Else-count-eq0 → List ℕ
row_bytes c = number_bytes c.before.before.args.row

abbrev count_bytes : Else-count-eq0 → List ℕ
count_bytes c = number_bytes c.before.before.args.count

-- the bytes of a pair, which there is room for
parts : (c : Else-count-eq0) → pair_bytes c.args.row c.args.count ≡ row_bytes c ++ count_bytes c
parts c = pair_above c.args.row c.args.count (omega arith)

room : (c : Else-count-eq0) → c.args.at + length (row_bytes c ++ count_bytes c) ≤ length c.args.out.now
room c = rw (← parts c) c.requires.2

pub put_number-middle-requires : goal.put_number-middle-requires
put_number-middle-requires c = (c.requires.0, omega (arith, room (goal.at.put_number-middle-requires c).Else-count-eq0, length-append (row_bytes (goal.at.put_number-middle-requires c).Else-count-eq0) (count_bytes (goal.at.put_number-middle-requires c).Else-count-eq0)))

pub put_number-requires : goal.put_number-requires
put_number-requires c =
    let a = c.args in
    (c.requires.1, written_room a.out.now a.at (row_bytes (goal.at.put_number-requires c).Else-count-eq0) (count_bytes (goal.at.put_number-requires c).Else-count-eq0) (room (goal.at.put_number-requires c).Else-count-eq0) c.put_number-middle.ensures)

pub returns : goal.returns
returns c =
    let a = c.args in
    rw (parts (goal.at.returns c).Else-count-eq0)
    (written_next a.out.now a.at (row_bytes (goal.at.returns c).Else-count-eq0) (count_bytes (goal.at.returns c).Else-count-eq0) (room (goal.at.returns c).Else-count-eq0) c.put_number-middle.ensures c.put_number.ensures)
