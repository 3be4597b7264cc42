-- `gate::put_weights` meets its contract: the weights are written one behind the other. Assumes nothing.
use mathlib.Core.Path.{◌≡◌, refl, sym}
use mathlib.Core.List.{List, [], ◌++◌}
use Prim.Native.Nat.{ℕ, zero, suc, ◌+◌, ◌<◌}
use native.Mathlib.Nat.{zero-add}
use native.Mathlib.Omega.{arith}
use borrow.Author.Rules.{rules}
use lib.Seq.{length-take-le}
use lib.ListN.{length, get_or, take}
use Rattle.std.proofs.lemmas.List.{get_or-take}
use lib.IntN.{ℤ, pos}
use mir.Syntax.{w32, w64}
use mir.Val.{SFits, to_z, of_z}
use Rattle.numbers.proofs.Widths.{wide_back}
use Rattle.codec.proofs.WrittenLaws.{written_nil, next_room, next_written}
use Rattle.text.specs.Text.{signed_text, spaced}
use Rattle.notation.specs.GateText.{weights_text}
use Rattle.text.proofs.DecimalLaws.{one_after_last}
use Rattle.notation.proofs.WeightLaws.{signed_fits_row}
use Rattle.notation.proofs.gate.put_weights.Goals as goal

module _ (a : List ℤ) where
  -- the text of the weights below a place, and of the one at it
  abbrev weights : ℕ → List ℕ
  weights place = weights_text a place 0

  abbrev weight_at : ℕ → List ℕ
  weight_at place = spaced (signed_text (get_or a place (pos 0)))

  none : (place : ℕ) → weights_text a zero place ≡ []
  unfolding weights_text
  none place = refl

  first : (m place : ℕ) → weights_text a (suc m) place ≡ weight_at place ++ weights_text a m (suc place)
  unfolding weights_text
  first m place = refl

  -- one weight more comes last
  weights_more : (m : ℕ) → weights (m + 1) ≡ weights m ++ weight_at m
  weights_more m = rw zero-add at (one_after_last (weights_text a) weight_at none first m 0)

-- a weight that is passed on by its bits
read_back : (a : List ℤ) (n place : ℕ) → place < n → SFits w32 (get_or a place (pos 0))
    → to_z w64 (of_z w64 (to_z w32 (of_z w32 (get_or (take n a) place (pos 0))))) ≡ get_or a place (pos 0)
read_back a n place h f = rw (get_or-take n a place (pos 0) h) (wide_back w64 tt f)

pub loop-weight-init : goal.loop-weight-init
loop-weight-init c = rw none (omega arith, sym (written_nil c.args.out.now c.args.at))

pub put_signed-here-requires : goal.put_signed-here-requires
put_signed-here-requires c =
    let a = c.args in
    let place = c.loop-weight.weight-index in
    let count : length a.weights ≡ 8 = search rules in
    let below : place < a.n = omega (arith, length-take-le a.n a.weights) in
    let f : SFits w32 (get_or a.weights place (pos 0)) = search (rules, signed_fits_row) in
    rw (read_back a.weights a.n place below f)
    (next_room (weights a.weights) (weight_at a.weights) (weights_more a.weights) a.n a.out.now a.at c.requires.1 place below c.loop-weight.invariant)

pub loop-weight-preserved : goal.loop-weight-preserved
loop-weight-preserved c =
    let a = c.args in
    let place = c.loop-weight.weight-index in
    let count : length a.weights ≡ 8 = search rules in
    let below : place < a.n = omega (arith, length-take-le a.n a.weights) in
    let f : SFits w32 (get_or a.weights place (pos 0)) = search (rules, signed_fits_row) in
    let wrote = rw (read_back a.weights a.n place below f) at c.put_signed-here.ensures in
    next_written (weights a.weights) (weight_at a.weights) (weights_more a.weights) a.n a.out.now a.at c.requires.1 place below c.loop-weight.invariant wrote
