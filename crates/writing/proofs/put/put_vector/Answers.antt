-- `put::put_vector` meets its contract. The loop's invariant: the weights so far are written, and `here` is the position behind them.
-- Assumes nothing.
use mathlib.Core.Path.{◌≡◌, sym, ◌∙◌, ap}
use mathlib.Core.Bool.{true}
use mathlib.Core.List.{List, ◌++◌}
use Prim.Native.Nat.{ℕ, ◌+◌, ◌≤◌, ◌<◌}
use native.Mathlib.Omega.{arith}
use lib.ListN.{length, get_or, take, length-append, length-take}
use lib.Seq.{get_or-take}
use lib.IntN.{pos}
use mir.Syntax.{w32}
use mir.Val.{to_z, of_z}
use borrow.Author.Rules.{rules}
use Rattle.table.specs.Gate.{weight_limit, in_range}
use Rattle.types.specs.declared.vector.Vector.{Vector}
use Rattle.function.proofs.RangeLaws.{within_correct, in_range_correct, in_range_at}
use Rattle.codec.specs.Number.{number_bytes, signed_code}
use Rattle.codec.specs.Written.{Put}
use Rattle.codec.proofs.NumberLaws.{signed_small}
use Rattle.codec.proofs.WrittenLaws.{written_nil, written_room, written_next, next_room, next_written}
use Rattle.codec.proofs.WeightLaws.{weights, weight_at, weights_zero, weights_more, vector_parts}
use Rattle.writing.proofs.put.put_vector.Goals as goal
use Rattle.writing.proofs.put.put_vector.Goals.{After-signed_code, After-signed_code-2, Start}

-- the codes of a vector in range
module _ (v : Vector) (fits : in_range weight_limit 8 v.a v.b ≡ true) where
  b_small : signed_code v.b < 2097152
  b_small = signed_small v.b ((within_correct weight_limit v.b).1 ((in_range_correct weight_limit 8 v.a v.b).0 fits).threshold)

  weight_small : (place : ℕ) → place < 8 → signed_code (get_or v.a place (pos 0)) < 2097152
  weight_small place h =
      let weight = get_or v.a place (pos 0) in
      signed_small weight ((within_correct weight_limit weight).1 (in_range_at ((in_range_correct weight_limit 8 v.a v.b).0 fits) place h))

-- the bytes of the weights and of b, which there is room for
abbrev a_bytes : Start → List ℕ
a_bytes c = weights c.args.v.a c.args.n

abbrev b_bytes : Start → List ℕ
b_bytes c = number_bytes (signed_code c.args.v.b)

room : (c : Start) → c.args.at + length (a_bytes c ++ b_bytes c) ≤ length c.args.out.now
room c = rw (← vector_parts c.args.n c.args.v) c.requires.2

a_room : (c : Start) → c.args.at + length (a_bytes c) ≤ length c.args.out.now
a_room c = omega (arith, room c, length-append (a_bytes c) (b_bytes c))

pub loop-weight-init : goal.loop-weight-init
loop-weight-init c = rw weights_zero (omega arith, sym (written_nil c.args.out.now c.args.at))

-- the place of a weight, and what the call says of it
below : (c : After-signed_code) → c.loop-weight.weight-index < c.args.n
below c = omega (arith, length-take c.args.n c.args.v.a)

code : (c : After-signed_code) → c.signed_code.result ≡ signed_code (get_or c.args.v.a c.loop-weight.weight-index (pos 0))
code c =
    let a = c.args.v.a in
    let place = c.loop-weight.weight-index in
    let read : to_z w32 (of_z w32 (get_or (take c.args.n a) place (pos 0))) ≡ get_or (take c.args.n a) place (pos 0) = search rules in
    c.signed_code.ensures ∙ ap signed_code (read ∙ get_or-take c.args.n a place (pos 0) (below c))

pub put_number-here-requires : goal.put_number-here-requires
put_number-here-requires c =
    let a = c.args in
    let place = c.loop-weight.weight-index in
    let at = goal.at.put_number-here-requires c in
    let h = below at.After-signed_code in
    rw (code at.After-signed_code) (
      weight_small a.v c.requires.1 place (omega arith),
      next_room (weights a.v.a) (weight_at a.v.a) (weights_more a.v.a) a.n a.out.now a.at (a_room at.Start) place h c.loop-weight.invariant,
    )

pub loop-weight-preserved : goal.loop-weight-preserved
loop-weight-preserved c =
    let a = c.args in
    let at = goal.at.loop-weight-preserved c in
    let wrote = rw (code at.After-signed_code) at c.put_number-here.ensures in
    next_written (weights a.v.a) (weight_at a.v.a) (weights_more a.v.a) a.n a.out.now a.at (a_room at.Start) c.loop-weight.weight-index (below at.After-signed_code) c.loop-weight.invariant wrote

-- all weights are written, and what the call says of b
wrote_weights : (c : After-signed_code-2) → let a = c.args in Put a.out.now a.at (weights a.v.a a.n) c.loop-weight.out c.loop-weight.here
wrote_weights c =
    let long : length c.args.v.a ≡ 8 = search rules in
    let all : c.loop-weight.weight-index ≡ c.args.n = omega (arith, length-take c.args.n c.args.v.a) in
    rw all at c.loop-weight.invariant

last : (c : After-signed_code-2) → c.signed_code-2.result ≡ signed_code c.args.v.b
last c =
    let b = c.args.v.b in
    let read : to_z w32 (of_z w32 b) ≡ b = search rules in
    c.signed_code-2.ensures ∙ ap signed_code read

pub put_number-requires : goal.put_number-requires
put_number-requires c =
    let a = c.args in
    let at = goal.at.put_number-requires c in
    rw (last at.After-signed_code-2) (b_small a.v c.requires.1, written_room a.out.now a.at (a_bytes at.Start) (b_bytes at.Start) (room at.Start) (wrote_weights at.After-signed_code-2))

pub returns : goal.returns
returns c =
    let a = c.args in
    let at = goal.at.returns c in
    let wrote = rw (last at.After-signed_code-2) at c.put_number.ensures in
    rw (vector_parts a.n a.v) (written_next a.out.now a.at (a_bytes at.Start) (b_bytes at.Start) (room at.Start) (wrote_weights at.After-signed_code-2) wrote)
