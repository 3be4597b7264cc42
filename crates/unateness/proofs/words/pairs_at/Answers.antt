-- `words::pairs_at` meets its contract. The two shifts of 1 lose nothing, and where a word lacks the input its partners stand in one of the
-- four words. Assumes nothing.
use mathlib.Core.Path.{◌≡◌, ◌∙◌, ap, ap₂}
use Prim.Native.Nat.{ℕ, ◌+◌, ◌*◌, ◌-◌, ◌/◌, ◌^◌, ◌%◌, ◌<◌}
use native.Mathlib.Omega.{arith}
use lib.Bits.{bit_and}
use lib.ListN.{get_or}
use lib.Pow.{pow_mono}
use Rattle.function.specs.Function.{level}
use Rattle.table.proofs.TableLaws.{level_lt, partner_below}
use Rattle.unateness.specs.declared.words.Pairs.{Pairs}
use Rattle.unateness.specs.Words.{word_of}
use Rattle.numbers.proofs.PowerLaws.{one_shifted}
use Rattle.unateness.proofs.PairLaws.{word_is, own_within, partner_within, own_across, partner_across, pairs_none}
use Rattle.unateness.proofs.words.pairs_at.Goals as goal
use Rattle.unateness.proofs.words.pairs_at.Goals.{Else-at-high-eq1}

abbrev both : ℕ → ℕ → Pairs
both own partner = record { own = own; partner = partner }

pub overflow_shr-moved : goal.overflow_shr-moved
overflow_shr-moved c =
    let place = c.args.place in
    rw (one_shifted place (omega arith)) (omega (arith, pow_mono {i = place} {j = 5} (omega arith)))

pub returns-then-place-lt6 : goal.returns-then-place-lt6
returns-then-place-lt6 c f e =
    let a = c.args in
    let place = a.place in
    let lacking = c.requires.2 (omega arith) in
    let own = word_is f a.at (omega arith) e in
    ap₂ both
    (ap₂ bit_and own lacking ∙ own_within f a.at place (omega arith))
    (ap₂ (λ (x y : ℕ). bit_and (x / 2 ^ y) a.lacking) own (one_shifted place (omega arith))
    ∙ ap (bit_and (word_of f a.at / 2 ^ 2 ^ place)) lacking
    ∙ partner_within f a.at place (omega arith))

pub returns-then-at-high-eq1 : goal.returns-then-at-high-eq1
returns-then-at-high-eq1 c f e =
    let a = c.args in
    let none = pairs_none f a.at (a.place - 6) a.place (omega arith) c.if-at-high-eq1.true in
    ap₂ both (none (λ j. f (64 * a.at + j))) (none (λ j. f (64 * a.at + j + 2 ^ a.place)))

-- the rows of the word lack the input
lacking : (c : Else-at-high-eq1) → level 2 c.args.at (c.args.place - 6) ≡ 0
lacking c =
    let a = c.args in
    omega (arith, c.if-at-high-eq1.false, level_lt a.at (a.place - 6))

-- the word of the partners is one of the four
further : (c : Else-at-high-eq1) → c.args.at + 2 ^ (c.args.place - 6) < 4
further c =
    let a = c.args in
    partner_below 2 a.at (a.place - 6) (omega arith) (lacking c) (omega arith)

shifted : (c : Else-at-high-eq1) → let q = c.args.place - 6 in 1 * 2 ^ q % 2 ^ 64 ≡ 2 ^ q
shifted c = one_shifted (c.args.place - 6) (omega arith)

pub bounds-words-at-2 : goal.bounds-words-at-2
bounds-words-at-2 c = rw (shifted c) (omega (arith, further c))

pub returns : goal.returns
returns c f e =
    let a = c.args in
    let q = a.place - 6 in
    let lacks-it = lacking (goal.at.returns c).Else-at-high-eq1 in
    ap₂ both
    (word_is f a.at (omega arith) e ∙ own_across f a.at q a.place (omega arith) lacks-it)
    (ap (λ (x : ℕ). get_or a.words.now (a.at + x) 0) (shifted (goal.at.returns c).Else-at-high-eq1)
    ∙ word_is f (a.at + 2 ^ q) (further (goal.at.returns c).Else-at-high-eq1) e
    ∙ partner_across f a.at q a.place (omega arith) lacks-it)
