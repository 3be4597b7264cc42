-- `inputs::turns_at` meets its contract. A row below 256 that lacks one of eight inputs has its partner below 256. Assumes nothing.
use mathlib.Core.Path.{◌≡◌, sym, ◌∙◌, ap}
use mathlib.Core.Bool.{Bool, not, ◌&&◌}
use mathlib.Core.List.{List}
use Prim.Native.Nat.{ℕ, ◌+◌, ◌*◌, ◌%◌, ◌^◌, ◌<◌}
use native.Mathlib.Nat.{one-mul, mod-eq_of_lt}
use native.Mathlib.Omega.{arith}
use borrow.Author.Tests.{not-true, not-false}
use Rattle.function.specs.Function.{level}
use Rattle.numbers.specs.Tests.{same_bool}
use Rattle.table.specs.Table.{bit_at, value, cared}
use Rattle.table.proofs.TableLaws.{level_lt, partner_below}
use Rattle.table.proofs.InputLaws.{same_bool_read, turns_at_has, turns_at_lacks}
use Rattle.rowwise.proofs.inputs.turns_at.Goals as goal
use Rattle.rowwise.proofs.inputs.turns_at.Goals.{Else-row-place-eq1}

pub returns-then-row-place-eq1 : goal.returns-then-row-place-eq1
returns-then-row-place-eq1 c t v k =
    let a = c.args in sym (turns_at_has t a.to a.place a.row c.if-row-place-eq1.true)

lacks : (c : Else-row-place-eq1) → level 2 c.args.row c.args.place ≡ 0
lacks c = omega (arith, c.if-row-place-eq1.false, level_lt c.args.row c.args.place)

-- the partner is a row of eight inputs, and the shift that gives it loses nothing
partner : (c : Else-row-place-eq1) → c.args.row + 2 ^ c.args.place < 256
partner c = partner_below 8 c.args.row c.args.place c.requires.0 (lacks c) c.requires.1

shifted : (c : Else-row-place-eq1) → 1 * 2 ^ c.args.place % 2 ^ 64 ≡ 2 ^ c.args.place
shifted c = rw one-mul (mod-eq_of_lt (omega (arith, partner c)))

pub returns-then-row_bit-to : goal.returns-then-row_bit-to
returns-then-row_bit-to c t v k =
    let a = c.args in
    let own = same_bool_read a.to (c.row_bit.ensures ∙ ap (λ (bits : List ℕ). bit_at bits a.row) v) c.if-row_bit-to.true in
    sym (turns_at_lacks t a.to a.place a.row (lacks (goal.at.returns-then-row_bit-to c).Else-row-place-eq1) ∙ rw own)

pub row_bit-requires-2 : goal.row_bit-requires-2
row_bit-requires-2 c = rw (shifted (goal.at.row_bit-requires-2 c).Else-row-place-eq1) (partner (goal.at.row_bit-requires-2 c).Else-row-place-eq1)

pub returns-then-row_bit-to-2 : goal.returns-then-row_bit-to-2
returns-then-row_bit-to-2 c t v k =
    let a = c.args in
    let own = same_bool_read a.to (c.row_bit.ensures ∙ ap (λ (bits : List ℕ). bit_at bits a.row) v) c.if-row_bit-to.false in
    let partners = same_bool_read a.to (c.row_bit-2.ensures ∙ ap (λ (bits : List ℕ). bit_at bits (a.row + 1 * 2 ^ a.place % 2 ^ 64)) v) (not-true _ c.if-row_bit-to-2.true) in
    sym (turns_at_lacks t a.to a.place a.row (lacks (goal.at.returns-then-row_bit-to-2 c).Else-row-place-eq1) ∙ rw (own, ← shifted (goal.at.returns-then-row_bit-to-2 c).Else-row-place-eq1, partners))

pub returns : goal.returns
returns c t v k =
    let a = c.args in
    let own = same_bool_read a.to (c.row_bit.ensures ∙ ap (λ (bits : List ℕ). bit_at bits a.row) v) c.if-row_bit-to.false in
    let partners = same_bool_read a.to (c.row_bit-2.ensures ∙ ap (λ (bits : List ℕ). bit_at bits (a.row + 1 * 2 ^ a.place % 2 ^ 64)) v) (not-false _ c.if-row_bit-to-2.false) in
    c.both_cared.ensures
    ∙ ap (λ (bits : List ℕ). bit_at bits a.row && bit_at bits (a.row + 1 * 2 ^ a.place % 2 ^ 64)) k
    ∙ ap (λ (p : ℕ). cared t a.row && cared t (a.row + p)) (shifted (goal.at.returns c).Else-row-place-eq1)
    ∙ sym (turns_at_lacks t a.to a.place a.row (lacks (goal.at.returns c).Else-row-place-eq1) ∙ ap (λ (b : Bool). not b && (same_bool (value t (a.row + 2 ^ a.place)) a.to && (cared t a.row && cared t (a.row + 2 ^ a.place)))) own
    ∙ ap (λ (b : Bool). b && (cared t a.row && cared t (a.row + 2 ^ a.place)))
    (ap (λ (p : ℕ). same_bool (value t (a.row + p)) a.to) (sym (shifted (goal.at.returns c).Else-row-place-eq1)) ∙ partners))

pub both_cared-requires : goal.both_cared-requires
both_cared-requires c =
    let e = (goal.at.both_cared-requires c).Else-row-place-eq1 in (c.requires.1, rw (shifted e) (partner e))
