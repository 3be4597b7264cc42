-- `field::put_number` meets its contract: a space, and behind it the number. Assumes nothing.
use mathlib.Core.List.{[], ◌∷◌}
use Rattle.codec.proofs.WrittenLaws.{written_next}
use Rattle.text.specs.Text.{decimal}
use Rattle.text.proofs.field.put_number.Goals as goal

pub returns : goal.returns
returns c =
    let a = c.args in
    written_next a.out.now a.at (32 ∷ []) (decimal a.x) c.requires c.put_byte-here.ensures c.put_decimal.ensures
