-- The loop's invariant: the places below 32 are as they came, and of the others those of the rows below `row` have their sums. No sum
-- wraps, by the sizes that the caller vouches for. Assumes nothing.
use mathlib.Core.Path.{◌≡◌, refl, sym, ◌∙◌, ap, ap₂}
use mathlib.Core.List.{List, ◌++◌}
use Prim.Native.Nat.{ℕ, ◌+◌, ◌^◌, ◌<◌}
use native.Mathlib.Omega.{arith}
use borrow.Author.Rules.{rules}
use lib.ListN.{length, get_or, drop, length-drop, take-append-drop}
use lib.Seq.{get_or-drop, take-set-le, drop-set-add}
use lib.IntN.{ℤ, pos, neg_ℤ, nat_abs, ◌+ℤ◌, ◌-ℤ◌}
use mir.Syntax.{w16}
use mir.Val.{to_z, of_z, SFits}
use mir.Facts.{to_z-of_z}
use Rattle.numbers.specs.Tabulate.{tabulate}
use Rattle.numbers.proofs.Int.{integers, nat_abs_parts, parts_add, parts_sub, parts_neg, size_add}
use Rattle.numbers.proofs.Widths.{size_fits}
use Rattle.numbers.proofs.TabulateLaws.{filled, filled_none, filled_more, filled_all}
use Rattle.correction.proofs.Entries.{get_d_next, sum_is}
use Rattle.correction.proofs.correction.add_high.Goals as goal
use Rattle.correction.proofs.correction.add_high.Invariants.{added}

pub loop-row-init : goal.loop-row-init
loop-row-init c = (refl, rw (to_z-of_z c.ranges.sign) (filled_none _ _))

-- a place's sum as it came, its step and the sign, as the code adds them up
module _ {sum old step sign : ℤ} (fits : SFits w16 sum) (is : sum ≡ old) (step_fits : SFits w16 step) (sign_fits : SFits w16 sign)
    (room : nat_abs old + nat_abs step + nat_abs sign < 2 ^ 15)
  where
    abbrev less : ℤ
    less = to_z w16 (of_z w16 step) -ℤ to_z w16 (of_z w16 sign)

    less_is : less ≡ step -ℤ sign
    less_is = ap₂ ◌-ℤ◌ (to_z-of_z step_fits) (to_z-of_z sign_fits)

    less_fits : SFits w16 less
    less_fits = rw less_is (size_fits (omega (arith, room, size_add step (neg_ℤ sign), parts_neg sign, nat_abs_parts step, nat_abs_parts sign)))

    abbrev made : ℤ
    made = to_z w16 (of_z w16 sum) +ℤ to_z w16 (of_z w16 less)

    made_is : made ≡ old +ℤ step -ℤ sign
    made_is =
        sum_is fits is less_fits
        ∙ ap (λ (z : ℤ). old +ℤ z) less_is
        ∙ omega (integers, parts_add old (step -ℤ sign), parts_sub step sign, parts_sub (old +ℤ step) sign, parts_add old step)

    made_fits : SFits w16 made
    made_fits =
        rw made_is
        (size_fits
        (omega (
          arith,
          room,
          size_add (old +ℤ step) (neg_ℤ sign),
          size_add old step,
          parts_neg sign,
          nat_abs_parts old,
          nat_abs_parts step,
          nat_abs_parts sign,
        )))

-- where the place's sum is as it came
kept : (sums old steps : List ℤ) (sign : ℤ) (row : ℕ) → drop 32 sums ≡ filled (added old steps sign) (drop 32 old) row
    → get_or sums (32 + row) (pos 0) ≡ get_or old (32 + row) (pos 0)
kept sums old steps sign row e =
    sym (get_or-drop 32 sums row (pos 0))
    ∙ ap (λ (l : List ℤ). get_or l row (pos 0)) e
    ∙ get_d_next (added old steps sign) (drop 32 old) row
    ∙ get_or-drop 32 old row (pos 0)

pub overflow_add-sums-in-loop-row : goal.overflow_add-sums-in-loop-row
overflow_add-sums-in-loop-row c =
    let head = c.loop-row in
    let fits : SFits w16 (get_or head.sums (32 + head.row) (pos 0)) = search rules in
    let step_fits : SFits w16 (get_or c.args.steps.now head.row (pos 0)) = search rules in
    made_fits fits (kept head.sums c.args.sums.now c.args.steps.now (to_z w16 (of_z w16 c.args.sign)) head.row head.invariant.1) step_fits c.ranges.sign (c.requires.sizes head.row (omega arith))

pub loop-row-preserved : goal.loop-row-preserved
loop-row-preserved c =
    let head = c.loop-row in
    let old = c.args.sums.now in
    let place : head.row < length (drop 32 old) = omega (arith, length-drop 32 old) in
    let fits : SFits w16 (get_or head.sums (32 + head.row) (pos 0)) = search rules in
    let step_fits : SFits w16 (get_or c.args.steps.now head.row (pos 0)) = search rules in
    let is = kept head.sums old c.args.steps.now (to_z w16 (of_z w16 c.args.sign)) head.row head.invariant.1 in
    let room = c.requires.sizes head.row (omega arith) in (
      take-set-le 32 head.sums (32 + head.row) _ (omega arith) ∙ head.invariant.0,
      drop-set-add 32 head.sums head.row _
          ∙ filled_more _ _ head.row place head.invariant.1
          (to_z-of_z (made_fits fits is step_fits c.ranges.sign room)
          ∙ made_is fits is step_fits c.ranges.sign room
          ∙ ap (λ (z : ℤ). added old c.args.steps.now z head.row) (sym (to_z-of_z c.ranges.sign))),
    )

pub returns : goal.returns
returns c =
    let head = c.loop-row in
    let old = c.args.sums.now in
    let f = added old c.args.steps.now in
    let high =
    filled_all (f (to_z w16 (of_z w16 c.args.sign))) (drop 32 old) head.row 8 (omega arith) (omega (arith, length-drop 32 old)) head.invariant.1
    in
    sym (take-append-drop 32 head.sums)
    ∙ ap₂ ◌++◌ head.invariant.0 (high ∙ ap (λ (z : ℤ). tabulate 8 (f z)) (to_z-of_z c.ranges.sign))
