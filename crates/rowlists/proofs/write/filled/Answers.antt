-- `write::filled` meets its contract: the rows whose count is above 0 are those of the counts that are above 0. Assumes nothing.
use Rattle.std.proofs.lemmas.List.Filters.{length-filter_more}
use Rattle.std.proofs.lemmas.List.Sums.{length-filter}
use Rattle.std.specs.List.{count_by, filter}
use mathlib.Core.Path.{◌≡◌, refl, sym, ◌∙◌}
use mathlib.Core.Bool.{Bool, true, false, cond}
use mathlib.Core.List.{List}
use Prim.Native.Nat.{ℕ, zero, suc, ◌≤◌}
use native.Mathlib.Nat.{zero-add}
use native.Mathlib.Numerals.{add-one}
use native.Mathlib.Omega.{arith}
use lib.Dec.{ltb}
use lib.ListN.{length, get_or, take}
use borrow.Author.Rules.{rules}
use Rattle.function.specs.Witness.{only_if}
use Rattle.codec.specs.RowList.{filled_from}
use Rattle.codec.proofs.PairLaws.{filled_zero, filled_snoc}
use Rattle.rowlists.proofs.write.filled.Goals as goal

abbrev above : ℕ → Bool
above count = ltb 0 count

one_if : (b : Bool) → only_if b 1 ≡ cond b 1 0
one_if true = refl
one_if false = refl

filled_filter : (counts : List ℕ) (rows : ℕ) → rows ≤ length counts → filled_from counts rows 0 ≡ length (filter above (take rows counts))
filled_filter counts zero h = filled_zero counts 0
filled_filter counts (suc rows) h =
    let before = filled_filter counts rows (omega arith) in
    rw (filled_snoc counts rows 0, zero-add, ← add-one rows, length-filter_more above counts rows 0 (omega arith), before, one_if (ltb 0 (get_or counts rows 0)))

pub returns : goal.returns
returns c =
    let counts = c.args.counts.now in
    let rows = c.args.rows in
    let counted : c.count.result ≡ count_by above (take rows counts) = search rules in
    counted ∙ sym (length-filter above (take rows counts)) ∙ sym (filled_filter counts rows (omega arith))
