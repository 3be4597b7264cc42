-- `witness::put_pairs` meets its contract. The loop's invariant: the pairs of the rows below `row` are written, and `here` is the position
-- behind them. Assumes nothing.
use mathlib.Core.Path.{sym}
use mathlib.Core.List.{List}
use Prim.Native.Nat.{ℕ, ◌<◌}
use native.Mathlib.Omega.{arith}
use Rattle.std.proofs.lemmas.List.{get_or-take}
use Rattle.function.specs.Witness.{count_of}
use Rattle.codec.proofs.WrittenLaws.{written_nil, next_room, next_written}
use Rattle.notation.specs.WitnessText.{pair_text, pairs_text}
use Rattle.notation.proofs.PairTextLaws.{pairs_text_zero, pairs_text_next}
use Rattle.notation.proofs.witness.put_pairs.Goals as goal

-- the pairs of so many rows, and the pair of one
abbrev pairs : List ℕ → ℕ → List ℕ
pairs counts rows = pairs_text counts rows 0

abbrev pair_at : List ℕ → ℕ → List ℕ
pair_at counts row = pair_text row (count_of counts row)

pub loop-row-init : goal.loop-row-init
loop-row-init c = rw pairs_text_zero (omega arith, sym (written_nil c.args.out.now c.args.at))

pub put_pair-here-requires : goal.put_pair-here-requires
put_pair-here-requires c =
    let a = c.args in
    let inside : c.loop-row.row < a.rows = omega arith in
    rw (get_or-take a.rows a.counts.now c.loop-row.row 0 inside)
    (next_room (pairs a.counts.now) (pair_at a.counts.now) (pairs_text_next a.counts.now) a.rows a.out.now a.at c.requires.1 c.loop-row.row inside c.loop-row.invariant)

pub loop-row-preserved : goal.loop-row-preserved
loop-row-preserved c =
    let a = c.args in
    let inside : c.loop-row.row < a.rows = omega arith in
    let wrote = rw (get_or-take a.rows a.counts.now c.loop-row.row 0 inside) at c.put_pair-here.ensures in
    next_written (pairs a.counts.now) (pair_at a.counts.now) (pairs_text_next a.counts.now) a.rows a.out.now a.at c.requires.1 c.loop-row.row inside c.loop-row.invariant wrote
