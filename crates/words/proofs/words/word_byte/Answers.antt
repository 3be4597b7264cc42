-- `words::word_byte` meets its contract: the bits of a byte of a word are the word's from there on. Assumes nothing.
use mathlib.Core.Path.{◌∙◌, ap}
use Prim.Native.Nat.{ℕ}
use Rattle.numbers.specs.Packed.{bit_in}
use Rattle.table.proofs.RowLaws.{row_byte_lem}
use Rattle.words.specs.Words.{word_row}
use Rattle.words.proofs.WordLaws.{word_row_lem}
use Rattle.words.proofs.words.word_byte.Goals as goal

pub returns : goal.returns
returns c =
    let a = c.args in
    c.kept_bits.ensures
    ∙ row_byte_lem a.n a.at c.byte_of.result (word_row a.words.now) c.requires.1
    (λ j l inside. ap (λ (b : ℕ). bit_in b j) c.byte_of.ensures ∙ word_row_lem a.words.now a.at j l)
