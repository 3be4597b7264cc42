-- Laws of keys: the bits of a key that a difference's sign turns, the least of some keys, and that the least key of a block is that of its
-- lowest failing row. Assumes nothing.
use mathlib.Core.Path.{◌≡◌, refl, sym, ◌∙◌, ap}
use mathlib.Core.Bool.{Bool, true, false, not, cond, ◌&&◌}
use Rattle.std.specs.Int.{int_min}
use Rattle.std.specs.Prelude.{Option, Some, None}
use Prim.Native.Nat.{ℕ, zero, suc, ◌+◌, ◌*◌, ◌-◌, ◌^◌, ◌≤◌, ◌<◌}
use native.Mathlib.Numerals.{add-one}
use native.Mathlib.Decide.{dec_le}
use native.Mathlib.Omega.{arith}
use lib.Bits.{bit_and, bit_xor, and_high, xor_zero_l, xor_shifted, xor_block}
use lib.IntN.{ℤ, pos, negsuc, neg_ℤ, nat_abs, ◌+ℤ◌, ◌-ℤ◌}
use lib.Signed.{lt_z, ◌≤ℤ◌, ≤ℤ_refl}
use borrow.Author.Tests.{le-ltb}
use mir.Syntax.{w16}
use mir.Val.{to_z, of_z, SFits}
use mir.Facts.{to_z-of_z, to_z_pos, to_z-neg}
use Rattle.numbers.specs.Packed.{bit_of}
use Rattle.numbers.specs.Tests.{first_from}
use Rattle.numbers.proofs.Int.{integers, nat_abs_parts, parts_neg, parts_add, parts_sub, ≤ℤ_trans, pos_nonneg}
use Rattle.numbers.proofs.TestLaws.{no_true, not_passed}
use Rattle.numbers.proofs.FirstLaws.{IsFirst, first_some, first_none}
use Rattle.types.specs.declared.table.Table.{Table}
use Rattle.function.specs.Failing.{margin}
use Rattle.lanes.specs.Blocks.{lane_value, lane_cared}
use Rattle.lanes.specs.Codes.{row_code}
use Rattle.search.specs.Keys.{one_of, key_of, goes_true, flipped, flipped_by, least_below}

-- ---- bits

-- a number whose sign bit is flipped
flipped_bits : (key : ℤ) → SFits w16 key → to_z w16 (bit_xor 32768 (of_z w16 key)) ≡ flipped key
unfolding flipped
flipped_bits (pos m) h =
    let left : m < 32768 = h.sfits in
    let k : ℕ = 32767 - m in
    let same : 32768 + m ≡ 65536 - suc k = omega arith in
    rw (xor_shifted 1 15 m left, same, to_z-neg w16 k (omega arith), le-ltb m 0 (omega arith))
    (omega (integers, parts_sub (pos m) (pos 32768)))
flipped_bits (negsuc m) h =
    let left : m < 32768 = h.sfits in
    let k : ℕ = 32768 - suc m in
    let same : 65536 - suc m ≡ 1 * 2 ^ 15 + k = omega arith in
    let blocks = xor_block 15 1 1 0 k (omega arith) (omega arith) in
    let cleared : bit_xor 32768 (65536 - suc m) ≡ k = ap (bit_xor 32768) same ∙ omega (arith, blocks, xor_zero_l k) in
    rw (cleared, to_z_pos w16 {n = k} (omega arith)) (omega (integers, parts_add (negsuc m) (pos 32768)))

-- the sign bit of a difference turns that of a key
pub key_bits : (difference key : ℤ) → SFits w16 difference → SFits w16 key
    → to_z w16 (bit_xor (bit_and (of_z w16 difference) 32768) (of_z w16 key)) ≡ flipped_by difference key
unfolding flipped_by
key_bits (pos n) key d h =
    let left : n < 32768 = d.sfits in
    let None : bit_and n 32768 ≡ 0 = omega (arith, and_high n 1 15) in
    rw (None, xor_zero_l, to_z-of_z h, le-ltb n 0 (omega arith))
key_bits (negsuc n) key d h =
    let left : n < 32768 = d.sfits in
    let one : bit_and (65536 - suc n) 32768 ≡ 32768 = omega (arith, and_high (65536 - suc n) 1 15) in
    rw one (flipped_bits key h)

-- ---- the least

pub least_none : (f : ℕ → ℤ) → least_below 0 f ≡ pos 32767
unfolding least_below
least_none f = refl

least_suc : (m : ℕ) (f : ℕ → ℤ) → least_below (suc m) f ≡ cond (lt_z (f m) (least_below m f)) (f m) (least_below m f)
unfolding least_below
least_suc m f = refl

-- the lower of the least so far and of the next value is the next least
pub least_more : {least x : ℤ} (m : ℕ) (f : ℕ → ℤ) → least ≡ least_below m f → x ≡ f m → int_min least x ≡ least_below (m + 1) f
least_more m f so_far next = rw (add-one, least_suc, ← so_far, ← next) refl

-- the lower of two is at most each
lower_le : (a b : ℤ) (lower : Bool) → lt_z a b ≡ lower → (cond lower a b ≤ℤ a) × (cond lower a b ≤ℤ b)
lower_le a b true e = (≤ℤ_refl a, omega integers)
lower_le a b false e = (omega integers, ≤ℤ_refl b)

-- the least is at most each value
pub least_le : (m : ℕ) (f : ℕ → ℤ) (q : ℕ) → q < m → least_below m f ≤ℤ f q
least_le zero f q h = absurd (omega arith)
least_le (suc m) f q h =
    rw least_suc (by (λ l. least_le m f q l) (lower_le (f m) (least_below m f) (lt_z (f m) (least_below m f)) refl) (dec_le m q))
  where
    by : {least : ℤ} → (q < m → least_below m f ≤ℤ f q) → (least ≤ℤ f m) × (least ≤ℤ least_below m f) → Dec (m ≤ q) → least ≤ℤ f q
    by earlier lower (yes last) = let same : m ≡ q = omega arith in rw (← same) lower.0
    by earlier lower (no before) = ≤ℤ_trans lower.1 (earlier (omega (arith, before)))

-- what is at most each value, and at most 32,767, is at most the least
pub least_ge : (m : ℕ) (f : ℕ → ℤ) (x : ℤ) → x ≤ℤ pos 32767 → ((q : ℕ) → q < m → x ≤ℤ f q) → x ≤ℤ least_below m f
least_ge zero f x top h = rw least_none top
least_ge (suc m) f x top h =
    rw least_suc (by (h m (omega arith)) (least_ge m f x top (λ q l. h q (omega arith))) (lt_z (f m) (least_below m f)))
  where
    by : {a b : ℤ} → x ≤ℤ a → x ≤ℤ b → (lower : Bool) → x ≤ℤ cond lower a b
    by p q true = p
    by p q false = q

-- ---- the lists that a row's key is made from

-- what is taken from the distance of a row, by whether it is cared for and its value
abbrev pub one_by : (c y : Bool) → ℤ
one_by c y = cond c (cond y (pos 1) (pos 0)) (pos 16384)

-- the key of a row, by whether it goes as a true one
abbrev pub key_by : Bool → ℕ → ℤ
key_by y r = cond y (pos (2 * r + 1)) (pos (2 * r) -ℤ pos 32768)

-- what code makes of two bits: 1 for a row that goes as a true one, and 16,384 for one that is not cared for
abbrev pub one_from : (free goes : Bool) → ℤ
one_from free goes = pos (bit_of goes + bit_of free * 16384)

pub one_from_lem : {free goes : Bool} (t : Table) (r : ℕ) → free ≡ not (lane_cared t r) → goes ≡ goes_true t r → one_from free goes ≡ one_of t r
unfolding one_of
one_from_lem t r e k = rw (e, k) (by (lane_cared t r) (lane_value t r))
  where
    by : (c y : Bool) → one_from (not c) (c && y) ≡ one_by c y
    by true true = refl
    by true false = refl
    by false y = refl

pub key_by_lem : {y : Bool} (t : Table) (r : ℕ) → y ≡ goes_true t r → key_by y r ≡ key_of t r
unfolding key_of
key_by_lem t r e = ap (λ (y : Bool). key_by y r) e

pub one_size : (t : Table) (r : ℕ) → nat_abs (one_of t r) ≤ 16384
unfolding one_of
one_size t r = by (lane_cared t r) (lane_value t r)
  where
    by : (c y : Bool) → nat_abs (one_by c y) ≤ 16384
    by true true = omega arith
    by true false = omega arith
    by false y = omega arith

-- ---- the key of a row

-- the key of a row of this code: 32,768 less where the row fails
abbrev pub keyed : Bool → ℕ → ℤ
keyed true code = pos code -ℤ pos 32768
keyed false code = pos code

-- a true row's difference is negative where its margin is below 1, a false row's where it is not
key_true : (d : ℤ) (m : ℕ) (test : Bool) → lt_z d (pos 1) ≡ test → flipped_by (d -ℤ pos 1) (pos m) ≡ keyed test m
unfolding flipped_by flipped
key_true d m true e =
    let negative : lt_z (d -ℤ pos 1) (pos 0) ≡ true = omega (integers, parts_sub d (pos 1)) in
    rw (negative, le-ltb m 0 (omega arith))
key_true d m false e =
    let negative : lt_z (d -ℤ pos 1) (pos 0) ≡ false = omega (integers, parts_sub d (pos 1)) in
    rw negative

key_false : (d : ℤ) (m : ℕ) (test : Bool) → m < 32768 → lt_z (neg_ℤ d) (pos 1) ≡ test
    → flipped_by (d -ℤ pos 0) (pos m -ℤ pos 32768) ≡ keyed test m
unfolding flipped_by flipped
key_false d m true h e =
    let negative : lt_z (d -ℤ pos 0) (pos 0) ≡ false = omega (integers, parts_sub d (pos 0), parts_neg d) in
    rw negative
key_false d m false h e =
    let negative : lt_z (d -ℤ pos 0) (pos 0) ≡ true = omega (integers, parts_sub d (pos 0), parts_neg d) in
    let low : lt_z (pos m -ℤ pos 32768) (pos 0) ≡ true = omega (integers, parts_sub (pos m) (pos 32768)) in
    rw (negative, low) (omega (integers, parts_sub (pos m) (pos 32768), parts_add (pos m -ℤ pos 32768) (pos 32768)))

-- the difference of a row that is not cared for is negative, so it does not fail
key_free : (d : ℤ) (m : ℕ) → nat_abs d ≤ 16000 → m < 32768 → flipped_by (d -ℤ pos 16384) (pos m -ℤ pos 32768) ≡ pos m
unfolding flipped_by flipped
key_free d m narrow h =
    let negative : lt_z (d -ℤ pos 16384) (pos 0) ≡ true = omega (integers, parts_sub d (pos 16384), nat_abs_parts d) in
    let low : lt_z (pos m -ℤ pos 32768) (pos 0) ≡ true = omega (integers, parts_sub (pos m) (pos 32768)) in
    rw (negative, low) (omega (integers, parts_sub (pos m) (pos 32768), parts_add (pos m -ℤ pos 32768) (pos 32768)))

-- so the flipped key of a row is its code, and 32,768 less where it fails
pub row_key : (t : Table) (r : ℕ) (d : ℤ) → r < 256 → nat_abs d ≤ 16000
    → flipped_by (d -ℤ one_of t r) (key_of t r) ≡ keyed (lane_cared t r && lt_z (margin (lane_value t r) d) (pos 1)) (row_code (goes_true t r) r)
unfolding one_of key_of
row_key t r d h narrow = by (lane_cared t r) (lane_value t r)
  where
    by : (c y : Bool) → flipped_by (d -ℤ one_by c y) (key_by (c && y) r) ≡ keyed (c && lt_z (margin y d) (pos 1)) (row_code (c && y) r)
    by true true = key_true d (2 * r + 1) (lt_z d (pos 1)) refl
    by true false = key_false d (2 * r) (lt_z (neg_ℤ d) (pos 1)) (omega arith) refl ∙ ap (keyed (lt_z (neg_ℤ d) (pos 1))) (omega arith)
    by false y = key_free d (2 * r) narrow (omega arith) ∙ ap pos (omega arith)

-- the code that a failing row's key stands for
pub flipped_back : (key : ℤ) (code made : ℕ) → key ≡ pos code -ℤ pos 32768 → pos made ≡ key +ℤ pos 32768 → made ≡ code
flipped_back key code made e f = omega (integers, e, f, parts_sub (pos code) (pos 32768), parts_add key (pos 32768))

-- ---- the least key of some rows

module _ (m : ℕ) (fails : ℕ → Bool) (code : ℕ → ℕ) (key : ℕ → ℤ)
    (small : (q : ℕ) → q < m → code q < 32768)
    (rising : (p q : ℕ) → p ≤ q → q < m → code p ≤ code q)
    (is : (q : ℕ) → q < m → key q ≡ keyed (fails q) (code q))
  where
    -- a failing row has a negative key, another row none
    key_fails : (q : ℕ) → q < m → fails q ≡ true → key q ≡ pos (code q) -ℤ pos 32768
    key_fails q h e = is q h ∙ ap (λ (b : Bool). keyed b (code q)) e

    key_passes : (q : ℕ) → q < m → fails q ≡ false → pos 0 ≤ℤ key q
    key_passes q h e = rw (is q h, e) (pos_nonneg (code q))

    -- where the least key is not negative, no row fails
    pub least_passes : lt_z (least_below m key) (pos 0) ≡ false → (q : ℕ) → q < m → fails q ≡ false
    least_passes e q h =
        not_passed (fails q)
        (λ f. omega (integers, least_le m key q h, key_fails q h f, parts_sub (pos (code q)) (pos 32768), small q h))

    -- the key of the lowest failing row is at most that of each row
    lowest_key : (q p : ℕ) → q < m → p < m → IsFirst fails m 0 q → (b : Bool) → fails p ≡ b → Dec (q ≤ p) → key q ≤ℤ key p
    lowest_key q p h k first false e d =
        omega (integers, key_fails q h first.passes, parts_sub (pos (code q)) (pos 32768), small q h, key_passes p k e)
    lowest_key q p h k first true e (yes later) =
        omega (
          integers,
          key_fails q h first.passes,
          key_fails p k e,
          parts_sub (pos (code q)) (pos 32768),
          parts_sub (pos (code p)) (pos 32768),
          rising q p later k,
        )
    lowest_key q p h k first true e (no before) = absurd (no_true (sym (first.before p (omega arith) (omega (arith, before))) ∙ e))

    -- the lowest failing row has the least key
    least_of : (q : ℕ) → IsFirst fails m 0 q → least_below m key ≡ pos (code q) -ℤ pos 32768
    least_of q first =
        let inside : q < m = omega arith in
        let own = key_fails q inside first.passes in
        let size = parts_sub (pos (code q)) (pos 32768) in
        let top : key q ≤ℤ pos 32767 = omega (integers, own, size, small q inside) in
        let least = least_ge m key (key q) top (λ p h. lowest_key q p inside h first (fails p) refl (dec_le q p)) in
        omega (integers, least_le m key q inside, own)

    -- where it is negative, it is that of the lowest failing row
    pub least_fails : lt_z (least_below m key) (pos 0) ≡ true → (q : ℕ) × IsFirst fails m 0 q × (least_below m key ≡ pos (code q) -ℤ pos 32768)
    least_fails e = by (first_from fails m 0) refl
      where
        by : (o : Option ℕ) → first_from fails m 0 ≡ o → (q : ℕ) × IsFirst fails m 0 q × (least_below m key ≡ pos (code q) -ℤ pos 32768)
        by None None-found =
            let passes = first_none fails m 0 None-found in
            let high = least_ge m key (pos 0) (pos_nonneg 32767) (λ q h. key_passes q h (passes q (omega arith) (omega arith))) in
            absurd (omega integers)
        by (Some q) found = let first = first_some fails m 0 q found in (q, first, least_of q first)
