-- `table::is_whole` meets its contract: every row is cared for exactly if the bytes of the rows are those of every row. Assumes nothing.
use Rattle.std.proofs.Common.{◌≡◌, ℕ, ◌<◌, true, ◌∙◌, ap, sym, arith, length}
use Rattle.std.proofs.lemmas.Bool.Decides.{same_from_decides}
use Rattle.std.proofs.lemmas.List.{get_or-take, length-take-le}
use mathlib.Core.List.{List}
use lib.ListN.{get_or, take}
use borrow.Author.Rules.{rules}
use mir.Syntax.{w8}
use mir.Val.{Fits}
use Rattle.table.specs.Table.{every_row}
use Rattle.table.proofs.TableLaws.{rows_le, bytes_le}
use Rattle.table.proofs.RowLaws.{ByteArray, row_byte_at}
use Rattle.table.proofs.CareLaws.{bytes_whole, whole_cares}
use Rattle.table.proofs.table.is_whole.Goals as goal

pub returns : goal.returns
returns c =
    let t = c.args.table in
    let m = c.byte_count.result in
    let full : (k : ℕ) → k < m → c.full_byte.result ≡ get_or (every_row t.n) k 0 =
    λ k l. c.full_byte.ensures.rows k (omega (arith, c.byte_count.ensures)) ∙ sym (row_byte_at t.n (λ row. true) c.requires.0 k (omega (arith, c.byte_count.ensures, rows_le c.requires.0)))
    in
    let cares : ByteArray t.cares = record { size = search rules; fits = λ i l. let byte : Fits w8 (get_or t.cares i 0) = search rules in byte.fits } in
    let long : length (take m t.cares) ≡ m = length-take-le m t.cares (omega (arith, cares.size, c.byte_count.ensures, bytes_le c.requires.0)) in
    same_from_decides _ _ c.all_are.ensures (
      λ whole k l.
          let inside : k < m = omega (arith, long) in
          get_or-take m t.cares k 0 inside ∙ ap (λ (l : List ℕ). get_or l k 0) (whole_cares t c.requires.0 cares c.requires.1 whole) ∙ sym (full k inside),
      λ same.
          bytes_whole t c.requires.0
          (λ k l.
          let inside : k < m = omega (arith, c.byte_count.ensures) in
          sym (get_or-take m t.cares k 0 inside) ∙ same k (omega (arith, long)) ∙ full k inside),
    )
