-- `binate::binate_at` meets its contract. The loop's invariant: the two words have gathered the rises and the falls of the words
-- below `at`. Assumes nothing.
use mathlib.Core.Path.{◌≡◌, sym, ◌∙◌, ap, ap₂}
use mathlib.Core.Bool.{Bool, true, false, not, ◌&&◌}
use Prim.Native.Nat.{◌*◌, ◌≤◌, ◌<◌}
use native.Mathlib.Omega.{arith}
use borrow.Author.Tests.{eq-eqb, ne_eqb}
use lib.Dec.{eqb}
use Rattle.types.specs.declared.table.Table.{Table}
use Rattle.table.specs.Table.{rows, function_of}
use Rattle.unateness.specs.declared.words.Pairs.{Pairs}
use Rattle.unateness.specs.Words.{on_side, side_words}
use Rattle.function.specs.Binate.{binate_at}
use Rattle.function.proofs.BinateLaws.{binate_at_searches}
use Rattle.unateness.proofs.TurnLaws.{turned, gather_none, gather_more, word_turned, turn_found}
use Rattle.unateness.proofs.binate.binate_at.Goals as goal
use Rattle.unateness.proofs.binate.binate_at.Goals.{After-loop-at}

pub loop-at-init : goal.loop-at-init
loop-at-init c sides e d = (gather_none (turned sides true c.args.place), gather_none (turned sides false c.args.place))

pub loop-at-preserved : goal.loop-at-preserved
loop-at-preserved c sides e d =
    let at = c.loop-at.at in
    let place = c.args.place in
    let on = c.pairs_at-on.ensures (sides true) e in
    let off = c.pairs_at-off.ensures (sides false) d in
    let passed = c.loop-at.invariant sides e d in (
      gather_more (turned sides true place) at passed.0
          (word_turned sides true place at (ap (λ (x : Pairs). x.own) off) (ap (λ (x : Pairs). x.partner) on)),
      gather_more (turned sides false place) at passed.1
          (word_turned sides false place at (ap (λ (x : Pairs). x.own) on) (ap (λ (x : Pairs). x.partner) off)),
    )

-- both words are not 0 exactly if the place is binate
found_both : (c : After-loop-at) (t : Table) → let at_end_lem = c.loop-at in let a = c.args in rows t ≤ 64 * a.words → a.place < t.n → a.trues.now ≡ (side_words t).trues → a.falses.now ≡ (side_words t).falses → (not (eqb at_end_lem.rises 0) && not (eqb at_end_lem.falls 0)) ≡ binate_at (function_of t) a.place
found_both c t h k e d =
    let at_end_lem = c.loop-at in
    let place = c.args.place in
    let all : rows t ≤ 64 * at_end_lem.at = omega arith in
    let passed = at_end_lem.invariant (on_side t) e d in
    ap₂ ◌&&◌ (turn_found t true place k at_end_lem.at all passed.0) (turn_found t false place k at_end_lem.at all passed.1)
    ∙ sym (binate_at_searches (function_of t) place)

pub returns-then-rises-ne0 : goal.returns-then-rises-ne0
returns-then-rises-ne0 c t h k e d =
    let at_end_lem = c.loop-at in
    let rises = ap not (ne_eqb at_end_lem.rises 0 c.if-rises-ne0.true) in
    ap (λ (b : Bool). b && not (eqb at_end_lem.falls 0)) (sym rises) ∙ found_both (goal.at.returns-then-rises-ne0 c).After-loop-at t h k e d

pub returns-else-rises-ne0 : goal.returns-else-rises-ne0
returns-else-rises-ne0 c t h k e d =
    let at_end_lem = c.loop-at in
    let idle = ap not (eq-eqb at_end_lem.rises 0 c.if-rises-ne0.false) in
    idle ∙ ap (λ (b : Bool). b && not (eqb at_end_lem.falls 0)) (sym idle) ∙ found_both (goal.at.returns-else-rises-ne0 c).After-loop-at t h k e d
