-- `words::word_at` meets its contract. Assumes nothing.
use mathlib.Core.Path.{◌∙◌, ap₂}
use Prim.Native.Nat.{◌*◌, ◌-◌, ◌%◌}
use native.Mathlib.Omega.{arith}
use Rattle.numbers.proofs.PowerLaws.{one_shifted}
use Rattle.unateness.proofs.PairLaws.{word_past, word_whole, word_cut}
use Rattle.unateness.proofs.words.word_at.Goals as goal

pub returns-then-rows-first : goal.returns-then-rows-first
returns-then-rows-first c =
    let a = c.args in word_past a.bytes.now a.rows a.at c.if-rows-first.true

pub returns-then-left-lt64 : goal.returns-then-left-lt64
returns-then-left-lt64 c =
    let a = c.args in
    let left = a.rows - 64 * a.at in
    ap₂ ◌%◌ c.eight_bytes-word.ensures (one_shifted left (omega arith))
    ∙ word_cut a.bytes.now a.rows a.at c.if-rows-first.false c.if-left-lt64.true

pub returns : goal.returns
returns c =
    let a = c.args in
    c.eight_bytes-word.ensures ∙ word_whole a.bytes.now a.rows a.at c.if-left-lt64.false
