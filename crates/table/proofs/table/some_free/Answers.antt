-- `table::some_free` meets its contract: the bits of a full byte are all set. Assumes nothing.
use Rattle.std.proofs.Common.{◌≡◌, ℕ, ◌/◌, ◌%◌, ◌<◌, ◌∙◌, ap, sym, arith, length}
use Rattle.std.proofs.lemmas.Bool.{not-false}
use Rattle.std.proofs.lemmas.List.{get_or-take, length-take-le}
use lib.ListN.{get_or, take}
use borrow.Author.Rules.{rules}
use Rattle.numbers.specs.Packed.{bit_in}
use Rattle.table.specs.Table.{bit_at}
use Rattle.table.proofs.TableLaws.{bytes_le}
use Rattle.table.proofs.RowLaws.{every_bit}
use Rattle.table.proofs.table.some_free.Goals as goal

pub returns : goal.returns
unfolding bit_at
returns c e row l =
    let cares = c.args.table.cares in
    let m = c.byte_count.result in
    let inside : row / 8 < m = omega (arith, c.byte_count.ensures) in
    let size : length cares ≡ 32 = search rules in
    let long : length (take m cares) ≡ m = length-take-le m cares (omega (arith, size, c.byte_count.ensures, bytes_le c.requires)) in
    let full : get_or cares (row / 8) 0 ≡ 255 = sym (get_or-take m cares (row / 8) 0 inside) ∙ c.all_are.ensures.0 (not-false _ e) (row / 8) (omega arith) in
    ap (λ (byte : ℕ). bit_in byte (row % 8)) full ∙ every_bit (row % 8) (omega arith)
