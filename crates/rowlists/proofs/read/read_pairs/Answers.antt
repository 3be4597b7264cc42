-- `rowlists::read::read_pairs` meets its contract: each way that the next pair can go. Assumes nothing.
use Rattle.std.proofs.lemmas.Result.{err_from_is_err_and}
use mathlib.Core.Path.{◌≡◌, sym, ◌∙◌}
use Prim.Native.Nat.{◌+◌, ◌-◌, ◌<◌}
use native.Mathlib.Omega.{arith}
use Rattle.rowlists.proofs.RowsLaws.{pair_fits_row, pairs_none, pairs_refused, pairs_stored, pairs_passed}
use Rattle.rowlists.proofs.read.read_pairs.Goals as goal
use Rattle.rowlists.proofs.read.read_pairs.Goals.{Then-pair, then-pair, else-pair}

pub returns-in_err-field : goal.returns-in_err-field
returns-in_err-field c =
    let a = c.args in
    let l = c.loop in
    let (m, is, same) = err_from_is_err_and c.from_residual.result c.from_residual.ensures.1 in
    rw (is, same) (pairs_refused a.strict a.rows (a.pairs - l.counter) l.lowest l.list a.bytes.now l.next (omega arith) (sym c.in_err-field.ensures) ∙ l.invariant)

pub returns : goal.returns
returns c =
    let a = c.args in
    let l = c.loop in
    pairs_none a.strict a.rows (a.pairs - l.counter) l.lowest l.list a.bytes.now l.next (omega arith) ∙ l.invariant

-- a pair in range has a row that is one of the 256
below : (c : Then-pair) → c.in_ok-field.field.value.row < 256
below c =
    let a = c.args in
    omega (arith, pair_fits_row a.strict a.rows c.loop.lowest a.bytes.now c.loop.next c.in_ok-field.field (sym c.in_ok-field.ensures) c.if-pair.true, c.requires)

pub bounds-list-pair : goal.bounds-list-pair
bounds-list-pair c = below (goal.at.bounds-list-pair c).Then-pair

pub overflow_add-lowest : goal.overflow_add-lowest
overflow_add-lowest c = omega (arith, below (goal.at.overflow_add-lowest c).Then-pair)

pub loop-preserved : goal.loop-preserved
loop-preserved c =
    let a = c.args in
    let l = c.loop in
    let left = a.pairs - l.counter in
    let some : 0 < left = omega arith in
    let less : a.pairs - (l.counter + 1) ≡ left - 1 = omega arith in
    let read = sym c.in_ok-field.ensures in
    elim c.if-pair.branch [
      | then-pair w ↦ rw (less, w.list-is, w.lowest-is) (pairs_stored a.strict a.rows left l.lowest l.list a.bytes.now l.next some read w.if-pair.true ∙ l.invariant)
      | else-pair w ↦ rw (less, w.list-is, w.lowest-is) (pairs_passed a.strict a.rows left l.lowest l.list a.bytes.now l.next some read w.if-pair.false ∙ l.invariant)
    ]
