-- `table::every_row` meets its contract: the bytes of the rows are stored, each with the bits of its rows. Assumes nothing.
use Rattle.std.proofs.Common.{◌≡◌, ℕ, ◌<◌, true, ◌∙◌, ap, sym, arith}
use mathlib.Core.List.{List, ◌++◌}
use lib.ListN.{drop, replicate, length-replicate, get_or-replicate}
use lib.Seq.{ext_get_or}
use Rattle.std.proofs.lemmas.List.{length-take-le}
use Rattle.table.proofs.TableLaws.{bytes_le}
use Rattle.numbers.specs.Tabulate.{tabulate}
use Rattle.numbers.proofs.TabulateLaws.{length_tabulate, get_d_tabulate}
use Rattle.table.specs.Table.{rows_of, row_byte}
use Rattle.table.proofs.RowLaws.{rows_made}
use Rattle.table.proofs.table.every_row.Goals as goal

-- so many times x are the values of a function that is x there
same_values : (x m : ℕ) (f : ℕ → ℕ) → ((k : ℕ) → k < m → x ≡ f k) → replicate m x ≡ tabulate m f
same_values x m f same =
    ext_get_or 0 (replicate m x) (tabulate m f) (length-replicate m x ∙ sym (length_tabulate f m))
    (λ k l.
    let inside : k < m = omega (arith, length-replicate m x) in
    get_or-replicate m k x 0 inside ∙ same k inside ∙ sym (get_d_tabulate f m k 0 inside))

pub returns : goal.returns
returns c =
    let n = c.args.n in
    let m = c.byte_count.result in
    let byte = row_byte (rows_of n) (λ row. true) in
    let stored : c.fill.new.self ≡ replicate m c.full_byte.result = c.fill.ensures.after (λ y e. e) ∙ ap (λ (k : ℕ). replicate k c.full_byte.result) (length-take-le m (replicate 32 0) (omega (arith, c.byte_count.ensures, bytes_le c.requires, length-replicate {A = ℕ} 32 0))) in
    rows_made n (λ row. true) c.requires c.byte_count.ensures
    (ap (λ (l : List ℕ). l ++ drop m (replicate 32 0))
    (stored ∙ same_values c.full_byte.result m byte (λ k l. c.full_byte.ensures.rows k (omega (arith, c.byte_count.ensures)))))
