-- `binate::binate_place` meets its contract: the first place that is binate is the lowest. Assumes nothing.
use mathlib.Core.Path.{sym, ◌∙◌, ap}
use native.Mathlib.Omega.{arith}
use Rattle.numbers.proofs.FirstLaws.{first_at, first_fails}
use Rattle.unateness.specs.declared.words.Sides.{Sides}
use Rattle.function.specs.Binate.{binate_at}
use Rattle.function.proofs.BinateLaws.{binate_place_search}
use Rattle.table.specs.Table.{function_of}
use Rattle.unateness.proofs.binate.binate_place.Goals as goal

pub returns-then-binate_at : goal.returns-then-binate_at
returns-then-binate_at c =
    let t = c.args.table in
    let trues = ap (λ (s : Sides). s.trues) c.side_words-sides.ensures in
    let falses = ap (λ (s : Sides). s.falses) c.side_words-sides.ensures in
    sym
    (binate_place_search (function_of t)
    ∙ first_at (binate_at (function_of t)) t.n 0 c.loop-place.place
    record {
      start = omega arith;
      inside = omega arith;
      passes = sym (c.binate_at.ensures t (omega (arith, c.row_count.ensures)) (omega arith) trues falses) ∙ c.if-binate_at.true;
      before = λ p l h. c.loop-place.invariant p h;
    })

pub returns : goal.returns
returns c =
    let t = c.args.table in
    sym (binate_place_search (function_of t) ∙ first_fails (binate_at (function_of t)) t.n 0 (λ p l h. c.loop-place.invariant p (omega arith)))
