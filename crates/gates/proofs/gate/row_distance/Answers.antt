-- `gate::row_distance` meets its contract: what a place adds to the sum, and its size. Assumes nothing.
use mathlib.Core.Path.{◌≡◌, sym, ◌∙◌, ap}
use mathlib.Core.List.{List}
use Prim.Native.Nat.{ℕ, ◌+◌, ◌*◌, ◌^◌, ◌≤◌, ◌<◌}
use native.Mathlib.Numerals.{add-one}
use native.Mathlib.Omega.{arith}
use lib.ListN.{length, take, get_or}
use lib.Seq.{take_all}
use lib.IntN.{ℤ, pos, ◌+ℤ◌, ◌-ℤ◌, zero-*ℤ, +ℤ_idr}
use mir.Syntax.{w32, w64}
use mir.Val.{to_z, of_z, SFits}
use mir.Facts.{to_z-of_z}
use borrow.Author.Rules.{rules}
use Rattle.numbers.specs.Sum.{weighted_sum}
use Rattle.numbers.proofs.Int.{up, dn, one_part, parts_sub, size_add}
use Rattle.numbers.proofs.Ring.{*ℤ_idl}
use Rattle.numbers.proofs.SumLaws.{weighted_sum_nil, weighted_sum_suc}
use Rattle.function.specs.Function.{level}
use Rattle.function.specs.Gate.{distance}
use Rattle.table.proofs.TableLaws.{level_lt}
use Rattle.numbers.proofs.Widths.{fits_size, size_fits, wide_back}
use Rattle.gates.proofs.gate.row_distance.Goals as goal
use Rattle.gates.proofs.gate.row_distance.Goals.{then-row-place-eq1, else-row-place-eq1}
use Rattle.gates.proofs.gate.row_distance.Invariants.{SumTo}

module _ (weights : List ℤ) (row place : ℕ) (z : ℤ) (h : place < length weights) where
  -- a place whose input is true adds its weight
  sum_true : level 2 row place ≡ 1 → SFits w32 (get_or weights place (pos 0)) → SumTo weights row place z
      → SumTo weights row (place + 1) (z +ℤ get_or weights place (pos 0))
  sum_true e f (is, size) = (
    rw (add-one, weighted_sum_suc place weights (level 2 row), e, *ℤ_idl, is),
    omega (arith, size_add z (get_or weights place (pos 0)), fits_size f),
  )

  -- a place whose input is false adds nothing
  sum_false : level 2 row place ≡ 0 → SumTo weights row place z → SumTo weights row (place + 1) z
  sum_false e (is, size) = (rw (add-one, weighted_sum_suc place weights (level 2 row), e, zero-*ℤ, +ℤ_idr) is, omega arith)

pub loop-place-init : goal.loop-place-init
loop-place-init c = (sym (weighted_sum_nil _), omega arith)

-- the sum with a weight, read back from the bits to which the code writes it
sum_back : (z x : ℤ) → SFits w32 x → up (z +ℤ x) + dn (z +ℤ x) < 2 ^ 63
    → to_z w64 (of_z w64 (z +ℤ to_z w64 (of_z w64 (to_z w32 (of_z w32 x))))) ≡ z +ℤ x
sum_back z x f h = rw (wide_back w64 tt f) (to_z-of_z {w = w64} (size_fits h))

pub loop-place-preserved : goal.loop-place-preserved
loop-place-preserved c =
    let ws = c.args.weights in
    let place = c.loop-place.place in
    let count : length ws ≡ 8 = search rules in
    let z = to_z w64 c.loop-place.sum-bits in
    elim c.if-row-place-eq1.branch [
      | then-row-place-eq1 w ↦
          let f : SFits w32 (get_or ws place (pos 0)) = search rules in
          let s = sum_true ws c.args.row place z (omega arith) w.if-row-place-eq1.true f c.loop-place.invariant in
          rw (w.sum-is, w.from-sum.ensures, sum_back z (get_or ws place (pos 0)) f (omega (arith, s.1))) s
      | else-row-place-eq1 w ↦
          let none : level 2 c.args.row place ≡ 0 = omega (arith, level_lt c.args.row place, w.if-row-place-eq1.false) in
          rw w.sum-is (sum_false ws c.args.row place z (omega arith) none c.loop-place.invariant)
    ]

-- a sum less T, read back likewise
less_back : (z th : ℤ) → SFits w32 th → up z + dn z ≤ 8 * 2 ^ 31
    → to_z w64 (of_z w64 (z -ℤ to_z w64 (of_z w64 (to_z w32 (of_z w32 th))))) ≡ z -ℤ th
less_back z th f h = rw (wide_back w64 tt f) (to_z-of_z {w = w64} (size_fits (omega (arith, parts_sub z th, one_part (z -ℤ th), fits_size f))))

pub returns : goal.returns
unfolding distance
returns c =
    let ws = c.args.weights in
    let z = to_z w64 c.loop-place.sum-bits in
    let count : length ws ≡ 8 = search rules in
    let all : take c.loop-place.place ws ≡ ws = take_all c.loop-place.place ws (omega arith) in
    let sum : z ≡ weighted_sum ws (level 2 c.args.row) = rw all at c.loop-place.invariant.0 in
    rw c.from.ensures (less_back z c.args.threshold c.ranges.threshold (omega (arith, c.loop-place.invariant.1)) ∙ ap (λ (s : ℤ). s -ℤ c.args.threshold) sum)
