-- `length::vector_length` meets its contract. The loop's invariant: the weights so far take so many bytes. Assumes nothing.
use mathlib.Core.Path.{◌≡◌, ◌∙◌, ap}
use Prim.Native.Nat.{ℕ, ◌<◌}
use native.Mathlib.Omega.{arith}
use lib.ListN.{length, get_or, take, length-append, length-take}
use lib.Seq.{get_or-take}
use lib.IntN.{pos}
use mir.Syntax.{w32}
use mir.Val.{to_z, of_z}
use borrow.Author.Rules.{rules}
use Rattle.codec.specs.Number.{number_bytes, signed_code}
use Rattle.codec.proofs.NumberLaws.{number_length}
use Rattle.codec.proofs.WeightLaws.{weight_at, weights_zero, weights_more, weights_most, vector_parts}
use Rattle.writing.proofs.length.vector_length.Goals as goal
use Rattle.writing.proofs.length.vector_length.Goals.{After-number_length-length}

pub loop-weight-init : goal.loop-weight-init
loop-weight-init c = rw weights_zero

pub overflow_add-length : goal.overflow_add-length
overflow_add-length c =
    omega (arith, weights_most c.args.v.a c.loop-weight.weight-index, number_length c.signed_code.result, length-take c.args.n c.args.v.a)

-- what the calls say of a weight
weight_length : (c : After-number_length-length) → c.number_length-length.result ≡ length (weight_at c.args.v.a c.loop-weight.weight-index)
weight_length c =
    let a = c.args.v.a in
    let place = c.loop-weight.weight-index in
    let below : place < c.args.n = omega (arith, length-take c.args.n a) in
    let read : to_z w32 (of_z w32 (get_or (take c.args.n a) place (pos 0))) ≡ get_or (take c.args.n a) place (pos 0) = search rules in
    c.number_length-length.ensures
    ∙ ap (λ (x : ℕ). length (number_bytes x)) (c.signed_code.ensures ∙ ap signed_code (read ∙ get_or-take c.args.n a place (pos 0) below))

pub loop-weight-preserved : goal.loop-weight-preserved
loop-weight-preserved c = rw (weights_more c.args.v.a c.loop-weight.weight-index, length-append, c.loop-weight.invariant, weight_length c)

pub overflow_add-result : goal.overflow_add-result
overflow_add-result c =
    omega (arith, weights_most c.args.v.a c.loop-weight.weight-index, number_length c.signed_code-2.result, length-take c.args.n c.args.v.a)

pub returns : goal.returns
returns c =
    let v = c.args.v in
    let long : length v.a ≡ 8 = search rules in
    let end : c.loop-weight.weight-index ≡ c.args.n = omega (arith, length-take c.args.n v.a) in
    let b : to_z w32 (of_z w32 v.b) ≡ v.b = search rules in
    rw (vector_parts, length-append, ← end, c.loop-weight.invariant, c.number_length.ensures, c.signed_code-2.ensures, b)
