-- `sums::add_row` meets its contract: a row without a count and a row of the other side add nothing. Assumes nothing.
use mathlib.Core.Path.{◌≡◌, sym, ◌∙◌, ap}
use mathlib.Core.Bool.{Bool, true, false}
use mathlib.Core.List.{List}
use Prim.Native.Nat.{ℕ, ◌+◌, ◌*◌}
use native.Mathlib.Omega.{arith}
use lib.ListN.{length, get_or}
use borrow.Author.Tests.{not-true, not-false}
use Rattle.numbers.specs.Tests.{same_bool}
use Rattle.numbers.specs.Tabulate.{tabulate}
use Rattle.numbers.proofs.TabulateLaws.{tabulate_get_d}
use Rattle.table.specs.Table.{bit_at}
use Rattle.function.specs.Witness.{input_level, only_if}
use Rattle.table.proofs.InputLaws.{same_bool_read}
use Rattle.function.specs.Function.{level}
use Rattle.sides.proofs.sums.add_row.Goals as goal

-- the sums with what a row adds, by whether it is of the side
abbrev sums_with : List ℕ → Bool → ℕ → ℕ → List ℕ
sums_with sums of row count = tabulate 9 (λ i. get_or sums i 0 + only_if of (count * input_level (level 2 row) i))

-- a row that adds nothing leaves the sums as they are
sums_kept : (sums : List ℕ) (of : Bool) (row count : ℕ) → length sums ≡ 9 → ((i : ℕ) → only_if of (count * input_level (level 2 row) i) ≡ 0)
    → sums ≡ sums_with sums of row count
sums_kept sums of row count n h = tabulate_get_d _ 9 0 sums n (λ i l. omega (arith, h i))

-- a row without a count adds nothing
no_count : (of : Bool) (row i : ℕ) → only_if of (0 * input_level (level 2 row) i) ≡ 0
no_count true row i = omega arith
no_count false row i = omega arith

pub returns-then-count-eq0 : goal.returns-then-count-eq0
returns-then-count-eq0 c =
    let a = c.args in
    let of = same_bool (bit_at a.values.now a.row) a.side in
    sums_kept a.sums.now of a.row a.count c.requires.1 (λ i. rw c.if-count-eq0.true (no_count of a.row i))

pub returns-then-row_bit-side : goal.returns-then-row_bit-side
returns-then-row_bit-side c =
    let a = c.args in
    let other = same_bool_read a.side c.row_bit.ensures (not-true _ c.if-row_bit-side.true) in
    sums_kept a.sums.now (same_bool (bit_at a.values.now a.row) a.side) a.row a.count c.requires.1 (λ i. rw other)

pub returns : goal.returns
returns c =
    let a = c.args in
    let same = same_bool_read a.side c.row_bit.ensures (not-false _ c.if-row_bit-side.false) in
    c.add_levels.ensures ∙ ap (λ (of : Bool). sums_with a.sums.now of a.row a.count) (sym same)
