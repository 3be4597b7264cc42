-- `sums::sums_of` meets its contract. No number is too large for 16 bits, since each is at most as large as the vector. Assumes nothing.
use mathlib.Core.Path.{◌≡◌, refl, sym, ◌∙◌, ap}
use Prim.Native.Nat.{ℕ, ◌-◌, ◌^◌, ◌≤◌, ◌<◌}
use native.Mathlib.Omega.{arith}
use lib.ListN.{length, get_or}
use lib.IntN.{ℤ, pos, nat_abs, ◌-ℤ◌}
use mir.Syntax.{w16, w32}
use mir.Val.{to_z, of_z, SFits}
use mir.Facts.{to_z-of_z}
use Rattle.numbers.proofs.Int.{nat_abs_parts, parts_sub, one_part}
use Rattle.numbers.proofs.Widths.{size_fits}
use Rattle.types.specs.declared.vector.Vector.{Vector}
use Rattle.function.specs.Function.{level}
use Rattle.function.specs.Gate.{distance}
use Rattle.scan.proofs.DistanceLaws.{distance_zero}
use Rattle.numbers.proofs.PowerLaws.{one_shifted}
use Rattle.lanes.specs.Sums.{magnitude, Doubled}
use Rattle.lanes.proofs.SumsLaws.{threshold_size, weight_size}
use Rattle.lanes.proofs.DoublingLaws.{sums_to_none, sums_to_low, sums_to_high, sums_to_all, low_made, high_made}
use Rattle.lanes.proofs.sums.sums_of.Goals as goal
use Rattle.lanes.proofs.sums.sums_of.Goals.{then-place-lt5, else-place-lt5}

-- a number of at most 16,000 is cast from 32 bits to 16 and read back
wide : (z : ℤ) → nat_abs z ≤ 16000 → SFits w32 z
wide z h = size_fits (omega (arith, nat_abs_parts z))

cast_fits : (z : ℤ) → nat_abs z ≤ 16000 → SFits w16 (to_z w32 (of_z w32 z))
cast_fits z h = rw (to_z-of_z (wide z h)) (size_fits (omega (arith, nat_abs_parts z)))

cast_read : (z : ℤ) → nat_abs z ≤ 16000 → to_z w16 (of_z w16 (to_z w32 (of_z w32 z))) ≡ z
cast_read z h = to_z-of_z (cast_fits z h) ∙ to_z-of_z (wide z h)

module _ (v : Vector) (pre : (length v.a ≡ 8) × (magnitude v ≤ 16000)) where
  -- ---- row 0
  -- b, read from its bits
  threshold_read : to_z w32 (of_z w32 v.b) ≡ v.b
  threshold_read = to_z-of_z (wide v.b (omega (arith, pre.1, threshold_size v)))

  -- the distance of row 0 is as large as b
  first_size : nat_abs (pos 0 -ℤ v.b) ≤ 16000
  first_size =
      omega (arith, pre.1, parts_sub (pos 0) v.b, one_part (pos 0 -ℤ v.b), nat_abs_parts v.b, nat_abs_parts (pos 0 -ℤ v.b), threshold_size v)

  first_fits : SFits w32 (pos 0 -ℤ to_z w32 (of_z w32 v.b))
  first_fits = rw threshold_read (wide (pos 0 -ℤ v.b) first_size)

  first_cast : SFits w16 (to_z w32 (of_z w32 (pos 0 -ℤ to_z w32 (of_z w32 v.b))))
  first_cast = rw threshold_read (cast_fits (pos 0 -ℤ v.b) first_size)

  first_is : to_z w16 (of_z w16 (to_z w32 (of_z w32 (pos 0 -ℤ to_z w32 (of_z w32 v.b))))) ≡ distance v.a v.b (level 2 0)
  first_is =
      ap (λ (z : ℤ). to_z w16 (of_z w16 (to_z w32 (of_z w32 (pos 0 -ℤ z))))) threshold_read
      ∙ cast_read (pos 0 -ℤ v.b) first_size
      ∙ sym (distance_zero v.a v.b)

  -- ---- a pass
  module _ (place : ℕ) (few : place < 8) where
    -- the weight of the round, and its size
    small : nat_abs (get_or v.a place (pos 0)) ≤ 16000
    small = omega (arith, pre.1, weight_size v place few)

    weight_read : to_z w16 (of_z w16 (to_z w32 (of_z w32 (get_or v.a place (pos 0))))) ≡ get_or v.a place (pos 0)
    weight_read = cast_read (get_or v.a place (pos 0)) small

pub overflow_sub-sums : goal.overflow_sub-sums
overflow_sub-sums c = first_fits c.args.v c.requires

pub overflow_cast-sums : goal.overflow_cast-sums
overflow_cast-sums c = first_cast c.args.v c.requires

pub loop-place-init : goal.loop-place-init
loop-place-init c = sums_to_none c.args.v.a c.args.v.b _ refl (first_is c.args.v c.requires) refl

-- ---- a low input
pub overflow_cast-weight : goal.overflow_cast-weight
overflow_cast-weight c = cast_fits (get_or c.args.v.a c.loop-place.place (pos 0)) (small c.args.v c.requires c.loop-place.place c.loop-place-test.true)

pub double-requires-clause-sums_fit : goal.double-requires-clause-sums_fit
double-requires-clause-sums_fit c =
    let v = c.args.v in
    let at = c.loop-place in
    rw (one_shifted at.place (omega arith), weight_read v c.requires at.place c.loop-place-test.true)
    (λ q l. omega (arith, low_made v 16000 c.requires.0 c.requires.1 at.sums at.place q c.if-place-lt5.true at.invariant l))

-- ---- a higher input
pub overflow_cast-weight-else-place-lt5 : goal.overflow_cast-weight-else-place-lt5
overflow_cast-weight-else-place-lt5 c = cast_fits (get_or c.args.v.a c.loop-place.place (pos 0)) (small c.args.v c.requires c.loop-place.place c.loop-place-test.true)

pub double-requires-else-place-lt5-clause-sums_fit : goal.double-requires-else-place-lt5-clause-sums_fit
double-requires-else-place-lt5-clause-sums_fit c =
    let v = c.args.v in
    let at = c.loop-place in
    rw (one_shifted (at.place - 5) (omega arith), weight_read v c.requires at.place c.loop-place-test.true)
    (λ h l. omega (arith, high_made v 16000 c.requires.0 c.requires.1 at.sums at.place h c.if-place-lt5.false c.loop-place-test.true at.invariant l))

-- ---- the loop
pub loop-place-preserved : goal.loop-place-preserved
loop-place-preserved c =
    let v = c.args.v in
    let at = c.loop-place in
    let read = weight_read v c.requires at.place c.loop-place-test.true in
    let weight = get_or v.a at.place (pos 0) in
    elim c.if-place-lt5.branch [
      | then-place-lt5 w ↦
          let half = 2 ^ at.place in
          let made : Doubled 0 half half weight at.sums w.double.new.sums = rw (one_shifted at.place (omega arith), read) at w.double.ensures in
          rw w.sums-is (sums_to_low v.a v.b at.sums w.double.new.sums at.place w.if-place-lt5.true made at.invariant)
      | else-place-lt5 w ↦
          let half = 2 ^ (at.place - 5) in
          let made : Doubled 32 half half weight at.sums w.double-else-place-lt5.new.sums = rw (one_shifted (at.place - 5) (omega arith), read) at w.double-else-place-lt5.ensures in
          rw w.sums-is (sums_to_high v.a v.b at.sums w.double-else-place-lt5.new.sums at.place w.if-place-lt5.false made at.invariant)
    ]

pub returns : goal.returns
returns c =
    let last : c.loop-place.place ≡ 8 = omega arith in
    sums_to_all c.args.v c.loop-place.sums (rw last at c.loop-place.invariant)
