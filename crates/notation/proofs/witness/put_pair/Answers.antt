-- `witness::put_pair` meets its contract: a pair is its row, a colon and its count, one behind the other, and nothing where the count is 0.
-- Assumes nothing.
use mathlib.Core.List.{[], ◌∷◌, ◌++◌}
use native.Mathlib.Omega.{arith}
use Rattle.text.specs.Text.{decimal, spaced}
use Rattle.notation.specs.WitnessText.{pair_text}
use Rattle.text.proofs.FieldWriting.{Left, all_left, next_left}
use Rattle.notation.proofs.PairTextLaws.{pair_text_lem}
use Rattle.notation.proofs.witness.put_pair.Goals as goal

pub returns : goal.returns
returns c =
    let a = c.args in
    let text = pair_text a.row a.count in
    let number = spaced (decimal a.row) in
    let count = decimal a.count in
    let at_row : Left a.out.now a.at text a.out.now a.at (number ++ (58 ∷ count)) = rw (← pair_text_lem a.row a.count (omega arith)) (all_left a.out.now a.at text c.requires) in
    let at_colon : Left a.out.now a.at text c.put_number-here.new.out c.put_number-here.result ((58 ∷ []) ++ count) = next_left number (58 ∷ count) at_row c.put_number-here.ensures in
    let at_count : Left a.out.now a.at text c.put_byte-here.new.out c.put_byte-here.result count = next_left (58 ∷ []) count at_colon c.put_byte-here.ensures in
    at_count.done c.put_decimal.ensures
