-- `scan::first_failing` meets its contract. Assumes nothing.
use Rattle.std.proofs.Common.{◌≡◌, ℕ, ◌+◌, ◌*◌, ◌%◌, ◌^◌, ◌≤◌, ◌<◌, length, get_or, take, ℤ, pos, ◌-ℤ◌, sym, ◌∙◌, ap, arith, rules, length-take, get_or-take}
use native.Mathlib.Nat.{lt_of_lt_of_le}
use native.Mathlib.Numerals.{add-one}
use lib.Pow.{pow_pos, pow_mono}
use lib.Seq.{get_or-set_same}
use mir.Syntax.{w32, w64}
use mir.Val.{to_z, of_z, SFits}
use mir.Facts.{to_z-of_z}
use Rattle.numbers.proofs.Int.{up, dn, nat_abs_parts}
use Rattle.numbers.proofs.PowerLaws.{one_shifted}
use Rattle.numbers.proofs.Widths.{size_fits, wide_back}
use Rattle.table.specs.Gate.{weight_limit}
use Rattle.function.proofs.RangeLaws.{InRange, in_range_correct, in_range_at}
use Rattle.scan.specs.Scan.{row_distance, fails_at}
use Rattle.scan.proofs.DistanceLaws.{distance_zero, distance_size}
use Rattle.scan.proofs.ScanLaws.{fails_at_test, block_row, block_passed, scan_row, scan_nowhere}
use Rattle.scan.proofs.scan.first_failing.Goals as goal
use Rattle.scan.proofs.scan.first_failing.Goals.{Start, In-loop-place, After-fails_in}

-- ---- the distances of the rows, and their sizes
abbrev away : Start → ℕ → ℤ
away c = row_distance c.args.v.a c.args.v.b

eight : (c : Start) → length c.args.v.a ≡ 8
eight c = search rules

within : (c : Start) → InRange weight_limit 8 c.args.v.a c.args.v.b
within c = (in_range_correct weight_limit 8 c.args.v.a c.args.v.b).0 c.requires.n_bound.1

away_size : (c : Start) (r : ℕ) → up (away c r) + dn (away c r) ≤ 9 * weight_limit
away_size c r = distance_size weight_limit 8 c.args.v.a c.args.v.b r (eight c) (within c)

-- what the code takes from 0 is the distance of row 0, and fits
first : (c : Start) → let z = pos 0 -ℤ to_z w32 (of_z w32 c.args.v.b) in (z ≡ away c 0) × SFits w32 z
first c =
    let fits : SFits w32 c.args.v.b = size_fits (omega (arith, nat_abs_parts c.args.v.b, (within c).threshold)) in
    let is = ap (λ (z : ℤ). pos 0 -ℤ z) (to_z-of_z fits) ∙ sym (distance_zero c.args.v.a c.args.v.b) in
    (is, rw is (size_fits (omega (arith, away_size c 0))))

pub overflow_sub-first : goal.overflow_sub-first
overflow_sub-first c = (first (goal.at.overflow_sub-first c).Start).1

-- so the first test is whether row 0 fails
tested : (c : After-fails_in) → c.fails_in.result ≡ fails_at c.args.cares.now c.args.values.now (row_distance c.args.v.a c.args.v.b) 0
tested c =
    let (is, fits) = first c.before.before.before in
    fails_at_test _ _ _ 0 c.fails_in.ensures (wide_back w64 tt fits ∙ is)

pub returns-then-fails_in : goal.returns-then-fails_in
returns-then-fails_in c =
    let a = c.args in
    scan_row a.table a.v a.cares.now a.values.now c.requires.cares_value 1 0 (pow_pos a.table.n)
    record {
      start = omega arith;
      inside = omega arith;
      passes = sym (tested (goal.at.returns-then-fails_in c).After-fails_in) ∙ c.if-fails_in.true;
      before = λ r l k. absurd (omega arith);
    }

pub loop-place-init : goal.loop-place-init
loop-place-init c =
    let at = goal.at.loop-place-init c in
    let (is, fits) = first at.Start in
    record {
      holds = λ r l.
          let zero : r ≡ 0 = omega arith in
          rw zero (get_or-set_same c.args.distances.now 0 _ (pos 0) (omega (arith, c.told-distances)) ∙ to_z-of_z fits ∙ is);
      none_fails = λ r g l. let zero : r ≡ 0 = omega arith in rw zero (sym (tested at.After-fails_in) ∙ c.if-fails_in.false);
    }

-- ---- a block: its numbers, as the code makes them
few : (c : In-loop-place) → c.loop-place.place < c.args.table.n
few c = omega (arith, length-take c.args.table.n c.args.v.a)

half_is : (c : In-loop-place) → let place = c.loop-place.place in 1 * 2 ^ place % 2 ^ 64 ≡ 2 ^ place
half_is c = one_shifted c.loop-place.place (omega (arith, few c, c.requires.n_bound.0))

weight_is : (c : In-loop-place) → let v = c.args.v in let place = c.loop-place.place in to_z w32 (of_z w32 (get_or (take c.args.table.n v.a) place (pos 0))) ≡ get_or v.a place (pos 0)
weight_is c =
    let v = c.args.v in
    let place = c.loop-place.place in
    let range = (in_range_correct weight_limit 8 v.a v.b).0 c.requires.n_bound.1 in
    let fits : SFits w32 (get_or v.a place (pos 0)) = size_fits (omega (arith, nat_abs_parts (get_or v.a place (pos 0)), in_range_at range place (omega (arith, few c, c.requires.n_bound.0)))) in
    rw (get_or-take c.args.table.n v.a place (pos 0) (few c)) (to_z-of_z fits)

pub search_block-requires-clause-sums_fit : goal.search_block-requires-clause-sums_fit
search_block-requires-clause-sums_fit c =
    let v = c.args.v in
    let place = c.loop-place.place in
    let at = goal.at.search_block-requires-clause-sums_fit c in
    let loop = at.In-loop-place in
    let range = within at.Start in
    rw (half_is loop, weight_is loop)
    (λ r l. rw (c.loop-place.invariant.holds r l)
    (omega (arith, nat_abs_parts (away at.Start r), away_size at.Start r, in_range_at range place (omega (arith, few loop, c.requires.n_bound.0)))))

pub returns-in-Some : goal.returns-in-Some
returns-in-Some c =
    let a = c.args in
    let head = c.loop-place in
    let at = (goal.at.returns-in-Some c).In-loop-place in
    let answer = rw (half_is at, weight_is at) at c.in-Some.ensures.value in
    scan_row a.table a.v a.cares.now a.values.now c.requires.cares_value _ _ (pow_mono (few at))
    (block_row a.v.a a.v.b a.cares.now a.values.now head.place head.distances head.invariant _ (sym answer))

pub loop-place-preserved : goal.loop-place-preserved
loop-place-preserved c =
    let a = c.args in
    let head = c.loop-place in
    let at = (goal.at.loop-place-preserved c).In-loop-place in
    let answer = rw (half_is at, weight_is at) at c.in_default.ensures.value in
    let holds = rw (half_is at, weight_is at) at (c.search_block.ensures.holds c.in_default.is) in
    rw (add-one head.place)
    (block_passed a.v.a a.v.b a.cares.now a.values.now head.place head.distances head.invariant _ (sym answer) (λ r l. holds r (omega arith)))

pub returns : goal.returns
returns c =
    let a = c.args in
    let head = c.loop-place in
    let end : a.table.n ≤ head.place = omega (arith, length-take a.table.n a.v.a, eight (goal.at.returns c).Start, c.requires.n_bound.0) in
    scan_nowhere a.table a.v a.cares.now a.values.now c.requires.cares_value
    (λ r l. head.invariant.none_fails r (omega arith) (lt_of_lt_of_le l (pow_mono end)))
