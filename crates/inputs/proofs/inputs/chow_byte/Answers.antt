-- `inputs::chow_byte` meets its contract: an even position has the low byte of its place, an odd one the high byte. Assumes nothing.
use mathlib.Core.Path.{◌≡◌, sym, ◌∙◌, ap}
use mathlib.Core.List.{List}
use mathlib.Core.Logic.{◌≢◌}
use Prim.Native.Nat.{ℕ, suc, ◌+◌, ◌/◌, ◌%◌}
use native.Mathlib.Omega.{arith}
use lib.ListN.{get_or}
use lib.IntN.{ℤ, pos}
use mir.Syntax.{w32}
use borrow.Author.Rules.{rules}
use Rattle.numbers.proofs.Int.{back}
use Rattle.inputs.specs.Inputs.{word, chow_bytes}
use Rattle.inputs.proofs.ByteLaws.{chow_low, chow_high}
use Rattle.inputs.proofs.inputs.chow_byte.Goals as goal
use Rattle.inputs.proofs.inputs.chow_byte.Goals.{After-word_of-code}

low : (q : List ℤ) (at code : ℕ) → code ≡ word (get_or q (at / 2) (pos 0)) → at % 2 ≡ 0 → code % 256 ≡ get_or (chow_bytes q) at 0
low q at code e h =
    let there : at / 2 + at / 2 ≡ at = omega arith in
    ap (λ (x : ℕ). x % 256) e ∙ sym (chow_low q (at / 2)) ∙ ap (λ (i : ℕ). get_or (chow_bytes q) i 0) there

high : (q : List ℤ) (at code : ℕ) → code ≡ word (get_or q (at / 2) (pos 0)) → at % 2 ≢ 0 → code / 256 ≡ get_or (chow_bytes q) at 0
high q at code e h =
    let there : suc (at / 2 + at / 2) ≡ at = omega arith in
    ap (λ (x : ℕ). x / 256) e ∙ sym (chow_high q (at / 2)) ∙ ap (λ (i : ℕ). get_or (chow_bytes q) i 0) there

-- the number of the place, which is read back from its bits
word_is : (c : After-word_of-code) → let a = c.args in c.word_of-code.result ≡ word (get_or a.q (a.at / 2) (pos 0))
word_is c =
    let a = c.args in
    c.word_of-code.ensures ∙ ap word (back w32 {a = get_or a.q (a.at / 2) (pos 0)} (search rules))

pub returns-then-at-eq0 : goal.returns-then-at-eq0
returns-then-at-eq0 c = low c.args.q c.args.at _ (word_is (goal.at.returns-then-at-eq0 c).After-word_of-code) c.if-at-eq0.true

pub returns-else-at-eq0 : goal.returns-else-at-eq0
returns-else-at-eq0 c = high c.args.q c.args.at _ (word_is (goal.at.returns-else-at-eq0 c).After-word_of-code) c.if-at-eq0.false
