-- The loop's invariant: the places below `row` have their sums. No sum wraps, by the sizes that the caller vouches for. Assumes nothing.
use mathlib.Core.Path.{◌≡◌, ◌∙◌, ap}
use mathlib.Core.List.{List}
use Prim.Native.Nat.{ℕ, ◌<◌}
use native.Mathlib.Omega.{arith}
use borrow.Author.Rules.{rules}
use lib.ListN.{length, get_or}
use lib.IntN.{ℤ, pos}
use mir.Syntax.{w16}
use mir.Val.{SFits}
use mir.Facts.{to_z-of_z}
use Rattle.numbers.proofs.TabulateLaws.{filled, filled_none, filled_more}
use Rattle.correction.proofs.Entries.{get_d_next, sum_is, sum_fits}
use Rattle.correction.proofs.correction.add_low.Goals as goal
use Rattle.correction.proofs.correction.add_low.Invariants.{added}

-- where the place's sum is as it came
kept : (sums old steps : List ℤ) (row : ℕ) → sums ≡ filled (added old steps) old row → get_or sums row (pos 0) ≡ get_or old row (pos 0)
kept sums old steps row e = ap (λ (l : List ℤ). get_or l row (pos 0)) e ∙ get_d_next (added old steps) old row

pub loop-row-init : goal.loop-row-init
loop-row-init c = filled_none _ _

pub overflow_add-sums : goal.overflow_add-sums
overflow_add-sums c =
    let row = c.loop-row.row in
    let fits : SFits w16 (get_or c.loop-row.sums row (pos 0)) = search rules in
    let step_fits : SFits w16 (get_or c.args.steps.now row (pos 0)) = search rules in
    rw (sum_is fits (kept c.loop-row.sums c.args.sums.now c.args.steps.now row c.loop-row.invariant) step_fits) (sum_fits (get_or c.args.sums.now row (pos 0)) (get_or c.args.steps.now row (pos 0)) (c.requires.sizes row (omega arith)))

pub loop-row-preserved : goal.loop-row-preserved
loop-row-preserved c =
    let row = c.loop-row.row in
    let place : row < length c.args.sums.now = omega arith in
    let fits : SFits w16 (get_or c.loop-row.sums row (pos 0)) = search rules in
    let step_fits : SFits w16 (get_or c.args.steps.now row (pos 0)) = search rules in
    let is = sum_is fits (kept c.loop-row.sums c.args.sums.now c.args.steps.now row c.loop-row.invariant) step_fits in
    filled_more _ _ row place c.loop-row.invariant (rw is (to_z-of_z (sum_fits (get_or c.args.sums.now row (pos 0)) (get_or c.args.steps.now row (pos 0)) (c.requires.sizes row (omega arith)))))
