-- What the sums say of the vector: its threshold and each weight, so that vectors whose sums agree are equal. Assumes nothing.
use mathlib.Core.Path.{◌≡◌, sym, ◌∙◌, ap, ap₂}
use Prim.Native.Nat.{ℕ, suc, ◌+◌, ◌*◌, ◌-◌, ◌^◌, ◌≤◌, ◌<◌}
use native.Mathlib.Nat.{zero-add}
use native.Mathlib.Decide.{dec_le}
use native.Mathlib.Omega.{arith}
use lib.Pow.{pow_pos, pow_mono}
use lib.ListN.{length, get_or}
use lib.Seq.{ext_get_or}
use lib.IntN.{ℤ, pos, ◌+ℤ◌, ◌-ℤ◌, +ℤ_idl}
use Rattle.numbers.specs.Sum.{weighted_sum}
use Rattle.numbers.proofs.Int.{integers, parts_add, parts_sub}
use Rattle.function.specs.Function.{level}
use Rattle.function.specs.Gate.{distance}
use Rattle.table.proofs.TableLaws.{level_past}
use Rattle.types.specs.declared.vector.Vector.{Vector}
use Rattle.function.proofs.VectorLaws.{vector_eq}
use Rattle.function.proofs.RangeLaws.{InRange, in_range_past}
use Rattle.scan.proofs.DistanceLaws.{partner_distance, distance_zero}
use Rattle.lanes.specs.Sums.{vector_sums}
use Rattle.lanes.specs.Blocks.{blocks_of}
use Rattle.lanes.proofs.SumsLaws.{sums_low, sums_high, row_zero, high_partner}

-- a low input's weight is what the distance of the row of it alone is more than that of row 0
pub low_weight : (v : Vector) (place : ℕ) → place < 5
    → get_or v.a place (pos 0) ≡ get_or (vector_sums v) (2 ^ place) (pos 0) -ℤ get_or (vector_sums v) 0 (pos 0)
low_weight v place l =
    let half : 2 ^ place ≤ 16 = pow_mono {j = 4} (omega arith) in
    let d = distance v.a v.b (level 2 0) in
    let w = get_or v.a place (pos 0) in
    let alone : distance v.a v.b (level 2 (2 ^ place)) ≡ d +ℤ w =
    rw zero-add at (partner_distance v.a v.b place 0 (level_past {n = 0} 0 place (omega arith) (omega arith))) in
    rw (sums_low v (2 ^ place) (omega arith), sums_low v 0 (omega arith), alone) (less d w)
  where
    less : (d w : ℤ) → w ≡ d +ℤ w -ℤ d
    less d w = omega (integers, parts_add d w, parts_sub (d +ℤ w) d)

-- a higher input's weight is the sum of the row of it alone
pub high_weight : (v : Vector) (place : ℕ) → 5 ≤ place → place < 8
    → get_or v.a place (pos 0) ≡ get_or (vector_sums v) (32 + 2 ^ (place - 5)) (pos 0)
high_weight v place up l =
    let k = place - 5 in
    let half : 2 ^ k ≤ 4 = pow_mono {j = 2} (omega arith) in
    let w = get_or v.a place (pos 0) in
    sym
    (sums_high v (2 ^ k) (omega arith)
    ∙ ap (λ (h : ℕ). weighted_sum v.a (level 2 (32 * h))) (sym (zero-add (2 ^ k)))
    ∙ high_partner v.a place 0 up (pow_pos k)
    ∙ ap (λ (z : ℤ). z +ℤ w) (row_zero v.a)
    ∙ +ℤ_idl w)

-- a number taken from 0 twice
pub less_twice : (z : ℤ) → pos 0 -ℤ (pos 0 -ℤ z) ≡ z
less_twice z = omega (integers, parts_sub (pos 0) (pos 0 -ℤ z), parts_sub (pos 0) z)

-- b is what row 0's distance is below 0
pub sums_threshold : (v : Vector) → v.b ≡ pos 0 -ℤ get_or (vector_sums v) 0 (pos 0)
sums_threshold v = rw (sums_low v 0 (omega arith), distance_zero v.a v.b) (sym (less_twice v.b))

-- there are at most eight blocks
pub blocks_le : (n : ℕ) → n ≤ 8 → blocks_of n ≤ 8
blocks_le n h = pow_mono {i = n - 5} {j = 3} (omega arith)

-- ---- sums that agree

module _ (v s : Vector) (k n : ℕ) (eight : length v.a ≡ 8) (eight-s : length s.a ≡ 8)
    (range : InRange k n v.a v.b) (range-s : InRange k n s.a s.b)
    (agree : (at : ℕ) → at < 32 + blocks_of n → get_or (vector_sums v) at (pos 0) ≡ get_or (vector_sums s) at (pos 0))
  where
    same_low : (place : ℕ) → place < 5 → get_or v.a place (pos 0) ≡ get_or s.a place (pos 0)
    same_low place l =
        let half : 2 ^ place ≤ 16 = pow_mono {j = 4} (omega arith) in
        low_weight v place l ∙ ap₂ ◌-ℤ◌ (agree (2 ^ place) (omega arith)) (agree 0 (omega arith)) ∙ sym (low_weight s place l)

    same_high : (place : ℕ) → 5 ≤ place → place < 8 → Dec (n ≤ place) → get_or v.a place (pos 0) ≡ get_or s.a place (pos 0)
    same_high place up l (yes past) = in_range_past range place past l ∙ sym (in_range_past range-s place past l)
    same_high place up l (no within) =
        let more : 2 ^ suc (place - 5) ≤ 2 ^ (n - 5) = pow_mono (omega (arith, within)) in
        let some = pow_pos (place - 5) in
        high_weight v place up l ∙ agree (32 + 2 ^ (place - 5)) (omega arith) ∙ sym (high_weight s place up l)

    same_weight : (place : ℕ) → place < 8 → Dec (5 ≤ place) → get_or v.a place (pos 0) ≡ get_or s.a place (pos 0)
    same_weight place l (yes high) = same_high place high l (dec_le n place)
    same_weight place l (no low) = same_low place (omega (arith, low))

    -- two vectors of n inputs whose sums agree, in as many blocks as they have, are equal
    pub sums_same : v ≡ s
    sums_same =
        vector_eq v s
        (ext_get_or (pos 0) v.a s.a (eight ∙ sym eight-s) (λ place l. same_weight place (omega arith) (dec_le 5 place)))
        (sums_threshold v ∙ ap (λ (z : ℤ). pos 0 -ℤ z) (agree 0 (omega arith)) ∙ sym (sums_threshold s))
