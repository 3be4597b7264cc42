-- Laws of a vector's sums: what each place holds, how large the sums are beside the vector, and how much a correction adds to its size.
-- Assumes nothing.
use mathlib.Core.Path.{◌≡◌, refl, sym, ◌∙◌, ap}
use mathlib.Core.Bool.{Bool, true, false}
use mathlib.Core.List.{List}
use Prim.Native.Nat.{ℕ, zero, suc, ◌+◌, ◌*◌, ◌-◌, ◌^◌, ◌≤◌, ◌<◌}
use native.Mathlib.Nat.{mul-le-mul_right}
use native.Mathlib.Decide.{dec_le}
use native.Mathlib.Omega.{arith}
use lib.Pow.{pow-add}
use lib.ListN.{length, get_or, take}
use lib.Seq.{take_all}
use lib.IntN.{ℤ, pos, neg_ℤ, nat_abs, ◌+ℤ◌, ◌*ℤ◌, +ℤ_idr}
use borrow.Author.Tests.{lt-ltb, le-ltb}
use Rattle.numbers.specs.Sum.{sum_below, weighted_sum}
use Rattle.numbers.proofs.Int.{nat_abs_parts, parts_neg, size_add, size_mul, up, dn}
use Rattle.numbers.proofs.SumLaws.{sum_below_suc, sum_below_add, sum_below_le, sum_below_term, sum_below_most, weighted_sum_nil, weighted_sum_suc, weighted_sum_ext, weighted_sum_zero}
use Rattle.numbers.proofs.TabulateLaws.{get_d_tabulate}
use Rattle.function.specs.Function.{level}
use Rattle.function.specs.Gate.{distance}
use Rattle.function.specs.Witness.{input_level}
use Rattle.table.proofs.TableLaws.{level_lt, level_past}
use Rattle.types.specs.declared.vector.Vector.{Vector}
use Rattle.function.specs.Vector.{sign, component, corrected_by}
use Rattle.function.proofs.VectorLaws.{component_corrected}
use Rattle.scan.proofs.DistanceLaws.{partner_distance}
use Rattle.lanes.specs.Sums.{place_sum, vector_sums, magnitude, Narrow}

-- ---- the places

-- each place has its sum
pub sums_at : (v : Vector) (q : ℕ) → q < 40 → get_or (vector_sums v) q (pos 0) ≡ place_sum v q
unfolding vector_sums
sums_at v q h = get_d_tabulate (place_sum v) 40 q (pos 0) h

-- the first 32 are the distances of the rows of five inputs
pub place_low : (v : Vector) (q : ℕ) → q < 32 → place_sum v q ≡ distance v.a v.b (level 2 q)
unfolding place_sum
place_low v q h = rw (lt-ltb q 32 h)

-- the others are the sums of the higher three inputs
pub place_high : (v : Vector) (h : ℕ) → place_sum v (32 + h) ≡ weighted_sum v.a (level 2 (32 * h))
unfolding place_sum
place_high v h =
    let back : 32 + h - 32 ≡ h = omega arith in
    rw (le-ltb (32 + h) 32 (omega arith)) (ap (λ (x : ℕ). weighted_sum v.a (level 2 (32 * x))) back)

pub sums_low : (v : Vector) (q : ℕ) → q < 32 → get_or (vector_sums v) q (pos 0) ≡ distance v.a v.b (level 2 q)
sums_low v q h = sums_at v q (omega arith) ∙ place_low v q h

pub sums_high : (v : Vector) (h : ℕ) → h < 8 → get_or (vector_sums v) (32 + h) (pos 0) ≡ weighted_sum v.a (level 2 (32 * h))
sums_high v h k = sums_at v (32 + h) (omega arith) ∙ place_high v h

-- row 0 has no true input
pub row_zero : (ws : List ℤ) → weighted_sum ws (level 2 0) ≡ pos 0
row_zero ws =
    weighted_sum_ext ws (level 2 0) (λ place. 0) (λ place h. level_past {n = 0} 0 place (omega arith) (omega arith)) ∙ weighted_sum_zero ws

-- the first block has no higher input
pub sums_first : (v : Vector) → get_or (vector_sums v) 32 (pos 0) ≡ pos 0
sums_first v = sums_high v 0 (omega arith) ∙ row_zero v.a

-- ---- rows of the higher inputs

-- a weighted sum is a distance from 0
sum_distance : (ws : List ℤ) (r : ℕ) → distance ws (pos 0) (level 2 r) ≡ weighted_sum ws (level 2 r)
unfolding distance
sum_distance ws r = +ℤ_idr (weighted_sum ws (level 2 r))

-- a row that lacks an input has a partner with it, whose sum is the row's and the weight of the input
pub partner_sum : (ws : List ℤ) (place r : ℕ) → level 2 r place ≡ 0
    → weighted_sum ws (level 2 (r + 2 ^ place)) ≡ weighted_sum ws (level 2 r) +ℤ get_or ws place (pos 0)
partner_sum ws place r e =
    sym (sum_distance ws (r + 2 ^ place))
    ∙ partner_distance ws (pos 0) place r e
    ∙ ap (λ (z : ℤ). z +ℤ get_or ws place (pos 0)) (sum_distance ws r)

-- the row of a higher input alone has a number that is a multiple of 32
pub high_power : (place : ℕ) → 5 ≤ place → 2 ^ place ≡ 32 * 2 ^ (place - 5)
high_power place l =
    let split : place ≡ 5 + (place - 5) = omega arith in
    ap (λ (x : ℕ). 2 ^ x) split ∙ pow-add 2 5 (place - 5)

-- the partner of a row of higher inputs, by the number of its block
pub high_partner : (ws : List ℤ) (place h : ℕ) → 5 ≤ place → h < 2 ^ (place - 5)
    → weighted_sum ws (level 2 (32 * (h + 2 ^ (place - 5)))) ≡ weighted_sum ws (level 2 (32 * h)) +ℤ get_or ws place (pos 0)
high_partner ws place h up l =
    let power = high_power place up in
    let row : 32 * (h + 2 ^ (place - 5)) ≡ 32 * h + 2 ^ place = omega arith in
    ap (λ (r : ℕ). weighted_sum ws (level 2 r)) row
    ∙ partner_sum ws place (32 * h) (level_past {n = place} (32 * h) place (omega arith) (omega arith))

-- ---- the size of the sums

-- a row whose number is a multiple of 32 lacks the low five inputs
pub high_level : (h place : ℕ) → place < 5 → level 2 (32 * h) place ≡ 0
high_level h zero l = omega arith
high_level h (suc zero) l = omega arith
high_level h (suc (suc zero)) l = omega arith
high_level h (suc (suc (suc zero))) l = omega arith
high_level h (suc (suc (suc (suc zero)))) l = omega arith
high_level h (suc (suc (suc (suc (suc place))))) l = absurd (omega arith)

-- so it has no input in common with a row of five inputs
levels_apart : (q h place : ℕ) → q < 32 → level 2 q place + level 2 (32 * h) place ≤ 1
levels_apart q h place l = by (dec_le 5 place)
  where
    by : Dec (5 ≤ place) → level 2 q place + level 2 (32 * h) place ≤ 1
    by (yes high) = omega (arith, level_past {n = 5} q place l high, level_lt (32 * h) place)
    by (no low) = omega (arith, high_level h place (omega (arith, low)), level_lt q place)

-- the size of a weight
abbrev pub size_at : List ℤ → ℕ → ℕ
size_at ws place = nat_abs (get_or ws place (pos 0))

-- the sizes of the weights, each times the level of its place, added up
abbrev sizes : List ℤ → (ℕ → ℕ) → ℕ
sizes ws l = sum_below 8 (λ place. l place * size_at ws place)

sum_size_first : (ws : List ℤ) (l : ℕ → ℕ) (m : ℕ) → m ≤ length ws
    → nat_abs (weighted_sum (take m ws) l) ≤ sum_below m (λ place. l place * size_at ws place)
sum_size_first ws l zero h = rw (weighted_sum_nil l) (omega arith)
sum_size_first ws l (suc m) h =
    let before = weighted_sum (take m ws) l in
    let w = get_or ws m (pos 0) in
    let more = pos (l m) *ℤ w in
    rw (weighted_sum_suc m ws l (omega arith), sum_below_suc)
    (omega (
      arith,
      sum_size_first ws l m (omega arith),
      nat_abs_parts before,
      nat_abs_parts (before +ℤ more),
      ap (λ (x : ℕ). l m * x) (nat_abs_parts w),
      size_add before more,
      size_mul (pos (l m)) w,
    ))

-- a weighted sum is at most that in size
sum_size : (ws : List ℤ) (l : ℕ → ℕ) → length ws ≡ 8 → nat_abs (weighted_sum ws l) ≤ sizes ws l
sum_size ws l eight = rw (take_all 8 ws (omega arith)) at (sum_size_first ws l 8 (omega arith))

-- where levels of a place add up to at most 1, such sizes add up to at most those of the weights
sizes_apart : (ws : List ℤ) (l k : ℕ → ℕ) → ((place : ℕ) → l place + k place ≤ 1) → sizes ws l + sizes ws k ≤ sum_below 8 (size_at ws)
sizes_apart ws l k apart =
    omega (
      arith,
      sum_below_add 8 (λ place. l place * size_at ws place) (λ place. k place * size_at ws place),
      sum_below_le 8 (λ place. l place * size_at ws place + k place * size_at ws place) (size_at ws)
          (λ place h. omega (arith, mul-le-mul_right (size_at ws place) (apart place))),
    )

-- the distance of a row is at most the size of b and that of the row's weights
distance_sizes : (ws : List ℤ) (th : ℤ) (q : ℕ) → length ws ≡ 8 → nat_abs (distance ws th (level 2 q)) ≤ nat_abs th + sizes ws (level 2 q)
unfolding distance
distance_sizes ws th q eight =
    let s = weighted_sum ws (level 2 q) in
    omega (
      arith,
      sum_size ws (level 2 q) eight,
      size_add s (neg_ℤ th),
      nat_abs_parts (s +ℤ neg_ℤ th),
      nat_abs_parts s,
      nat_abs_parts th,
      parts_neg th,
    )

-- b and each weight are at most as large as the vector
pub threshold_size : (v : Vector) → nat_abs v.b ≤ magnitude v
unfolding magnitude
threshold_size v = omega arith

pub weight_size : (v : Vector) (place : ℕ) → place < 8 → nat_abs (get_or v.a place (pos 0)) ≤ magnitude v
unfolding magnitude
weight_size v place l = omega (arith, sum_below_term 8 (size_at v.a) place l)

-- a low row's distance and a higher inputs' sum are together at most as large as the vector
pub sums_narrow : (v : Vector) (m : ℕ) → length v.a ≡ 8 → magnitude v ≤ m → Narrow m (vector_sums v)
unfolding magnitude
sums_narrow v m eight small q h l k =
    rw (sums_low v q l, sums_high v h k)
    (omega (
      arith,
      distance_sizes v.a v.b q eight,
      sum_size v.a (level 2 (32 * h)) eight,
      sizes_apart v.a (level 2 q) (level 2 (32 * h)) (λ place. levels_apart q h place l),
    ))

-- ---- the size of the vector

sign_size : (y : Bool) → up (sign y) + dn (sign y) ≡ 1
sign_size true = refl
sign_size false = refl

input_level_le : (r i : ℕ) → input_level (level 2 r) i ≤ 1
input_level_le r zero = omega arith
input_level_le r (suc place) = omega (arith, level_lt r place)

-- a correction adds at most 1 to the size of a component
component_size : (y : Bool) (r : ℕ) (v : Vector) (i : ℕ) → i ≤ length v.a
    → nat_abs (component (corrected_by y (level 2 r) v) i) ≤ nat_abs (component v i) + 1
component_size y r v i h =
    let old = component v i in
    let more = sign y *ℤ pos (input_level (level 2 r) i) in
    rw (component_corrected y (level 2 r) v i h)
    (omega (
      arith,
      nat_abs_parts old,
      nat_abs_parts (old +ℤ more),
      size_add old more,
      rw (sign_size y) at (size_mul (sign y) (pos (input_level (level 2 r) i))),
      input_level_le r i,
    ))

neg_size : (z : ℤ) → nat_abs (neg_ℤ z) ≡ nat_abs z
neg_size z = omega (arith, nat_abs_parts z, nat_abs_parts (neg_ℤ z), parts_neg z)

-- a correction adds at most 9 to the size of a vector: 1 for b and for each weight
pub magnitude_corrected : (y : Bool) (r : ℕ) (v : Vector) → length v.a ≡ 8 → magnitude (corrected_by y (level 2 r) v) ≤ magnitude v + 9
unfolding magnitude
magnitude_corrected y r v eight =
    let next = corrected_by y (level 2 r) v in
    omega (
      arith,
      component_size y r v 0 (omega arith),
      neg_size v.b,
      neg_size next.b,
      sum_below_le 8 (size_at next.a) (λ place. size_at v.a place + 1) (λ place h. component_size y r v (suc place) (omega arith)),
      sum_below_add 8 (size_at v.a) (λ place. 1),
      sum_below_most 8 1 (λ place. 1) (λ place h. omega arith),
    )
