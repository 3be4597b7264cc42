-- Laws of `packed`, a number by its bits: what the operations on words do to the bits, and when it is 0. Assumes nothing.
use mathlib.Core.Path.{◌≡◌, refl, sym, ◌∙◌, ap, ap₂, subst}
use mathlib.Core.Bool.{Bool, true, false, not, ◌&&◌, ◌||◌}
use Prim.Native.Nat.{ℕ, zero, suc, ◌+◌, ◌-◌, ◌*◌, ◌/◌, ◌%◌, ◌^◌, ◌≤◌, ◌<◌, min, max}
use native.Mathlib.Nat.{pow-suc, suc-add, zero-add, add_comm, mod-lt}
use native.Mathlib.Omega.{arith}
use lib.Arith.{digits_div, digits_mod}
use lib.Bits.{bit_and, bit_or, and_step, or_step, and_le_l, and_le_r, or_add_and}
use lib.Dec.{eqb, ltb}
use lib.Pow.{shr-shr, high, low}
use borrow.Author.Tests.{lt-ltb, le-ltb}
use Rattle.numbers.specs.Packed.{bit_of, packed, bit_in}

bit_of_lt : (b : Bool) → bit_of b < 2
bit_of_lt true = omega arith
bit_of_lt false = omega arith

-- functions that agree below m have the same bits
pub packed_ext : (m : ℕ) (f g : ℕ → Bool) → ((j : ℕ) → j < m → f j ≡ g j) → packed m f ≡ packed m g
unfolding packed
packed_ext zero f g h = refl
packed_ext (suc m) f g h =
    let later = packed_ext m (λ j. f (suc j)) (λ j. g (suc j)) (λ j k. h (suc j) (omega arith)) in
    ap₂ (λ (x : ℕ) (b : Bool). x * 2 + bit_of b) later (h 0 (omega arith))

-- m bits make a number below 2^m
pub packed_lt : (m : ℕ) (f : ℕ → Bool) → packed m f < 2 ^ m
unfolding packed
packed_lt zero f = omega arith
packed_lt (suc m) f = omega (arith, packed_lt m (λ j. f (suc j)), bit_of_lt (f 0), pow-suc 2 m)

-- its half has the other bits, and the rest is the lowest
packed_half : (m : ℕ) (f : ℕ → Bool) → packed (suc m) f / 2 ≡ packed m (λ j. f (suc j))
unfolding packed
packed_half m f = digits_div (packed m (λ j. f (suc j))) (bit_of_lt (f 0))

packed_rest : (m : ℕ) (f : ℕ → Bool) → packed (suc m) f % 2 ≡ bit_of (f 0)
unfolding packed
packed_rest m f = digits_mod (packed m (λ j. f (suc j))) (bit_of_lt (f 0))

min_bits : (a b : Bool) → min (bit_of a) (bit_of b) ≡ bit_of (a && b)
min_bits true true = refl
min_bits true false = refl
min_bits false true = refl
min_bits false false = refl

max_bits : (a b : Bool) → max (bit_of a) (bit_of b) ≡ bit_of (a || b)
max_bits true true = refl
max_bits true false = refl
max_bits false true = refl
max_bits false false = refl

-- `&` of two words has the bits that both have
pub packed_and : (m : ℕ) (f g : ℕ → Bool) → bit_and (packed m f) (packed m g) ≡ packed m (λ j. f j && g j)
unfolding packed
packed_and zero f g = refl
packed_and (suc m) f g =
    and_step (packed (suc m) f) (packed (suc m) g)
    ∙ ap₂ (λ (x y : ℕ). x * 2 + y)
    (ap₂ bit_and (packed_half m f) (packed_half m g) ∙ packed_and m (λ j. f (suc j)) (λ j. g (suc j)))
    (ap₂ min (packed_rest m f) (packed_rest m g) ∙ min_bits (f 0) (g 0))

-- `|` of two words has the bits that one of them has
pub packed_or : (m : ℕ) (f g : ℕ → Bool) → bit_or (packed m f) (packed m g) ≡ packed m (λ j. f j || g j)
unfolding packed
packed_or zero f g = refl
packed_or (suc m) f g =
    or_step (packed (suc m) f) (packed (suc m) g)
    ∙ ap₂ (λ (x y : ℕ). x * 2 + y)
    (ap₂ bit_or (packed_half m f) (packed_half m g) ∙ packed_or m (λ j. f (suc j)) (λ j. g (suc j)))
    (ap₂ max (packed_rest m f) (packed_rest m g) ∙ max_bits (f 0) (g 0))

not_bit : (b : Bool) → bit_of (not b) + bit_of b ≡ 1
not_bit true = refl
not_bit false = refl

packed_not_sum : (m : ℕ) (f : ℕ → Bool) → packed m (λ j. not (f j)) + packed m f + 1 ≡ 2 ^ m
unfolding packed
packed_not_sum zero f = refl
packed_not_sum (suc m) f = omega (arith, packed_not_sum m (λ j. f (suc j)), not_bit (f 0), pow-suc 2 m)

-- `!` of a word has the bits that it lacks
pub packed_not : (m : ℕ) (f : ℕ → Bool) → 2 ^ m - 1 - packed m f ≡ packed m (λ j. not (f j))
packed_not m f = omega (arith, packed_not_sum m f)

-- `|` of two numbers is 0 only where both are
pub or_none : (x y : ℕ) → bit_or x y ≡ 0 → (x ≡ 0) × (y ≡ 0)
or_none x y e = (omega (arith, e, or_add_and x y, and_le_r x y), omega (arith, e, or_add_and x y, and_le_l x y))

-- no bits make 0
pub packed_none : (m : ℕ) (f : ℕ → Bool) → ((j : ℕ) → j < m → f j ≡ false) → packed m f ≡ 0
unfolding packed
packed_none zero f h = refl
packed_none (suc m) f h = omega (arith, packed_none m (λ j. f (suc j)) (λ j k. h (suc j) (omega arith)), ap bit_of (h 0 (omega arith)))

bit_zero : (b : Bool) → bit_of b ≡ 0 → b ≡ false
bit_zero true e = absurd (omega arith)
bit_zero false e = refl

-- 0 has none
pub packed_zero : (m : ℕ) (f : ℕ → Bool) → packed m f ≡ 0 → (j : ℕ) → j < m → f j ≡ false
unfolding packed
packed_zero zero f e j k = absurd (omega arith)
packed_zero (suc m) f e zero k = bit_zero (f 0) (omega arith)
packed_zero (suc m) f e (suc j) k = packed_zero m (λ i. f (suc i)) (omega arith) j (omega arith)

-- bits on top of k bits
pub packed_append : (k m : ℕ) (f : ℕ → Bool) → packed (k + m) f ≡ packed m (λ j. f (k + j)) * 2 ^ k + packed k f
unfolding packed
packed_append zero m f =
    ap (λ (x : ℕ). packed x f) (zero-add m) ∙ packed_ext m f (λ j. f (0 + j)) (λ j k. ap f (sym (zero-add j))) ∙ omega arith
packed_append (suc k) m f =
    let top = packed m (λ j. f (suc k + j)) in
    let same : packed m (λ j. f (suc (k + j))) ≡ top = packed_ext m _ _ (λ j l. ap f (sym (suc-add k j))) in
    ap (λ (x : ℕ). packed x f) (suc-add k m)
    ∙ omega (arith, packed_append k m (λ j. f (suc j)), ap (λ (x : ℕ). x * 2 ^ k) same, ap (λ (x : ℕ). top * x) (pow-suc 2 k))

bit_rest : (d : ℕ) → d < 2 → bit_of (eqb d 1) ≡ d
bit_rest zero h = refl
bit_rest (suc zero) h = refl
bit_rest (suc (suc d)) h = absurd (omega arith)

-- a number below 2^m is its bits
pub packed_digits : (m x : ℕ) → x < 2 ^ m → x ≡ packed m (λ j. eqb (x / 2 ^ j % 2) 1)
unfolding packed
packed_digits zero x h = omega arith
packed_digits (suc m) x h =
    let more : (j : ℕ) → x / 2 / 2 ^ j ≡ x / 2 ^ suc j = λ j. shr-shr x 1 j ∙ ap (λ (i : ℕ). x / 2 ^ i) (omega arith) in
    let rest = bit_rest (x / 1 % 2) (mod-lt (x / 1) (omega arith)) in
    let half = packed_digits m (x / 2) (omega (arith, pow-suc 2 m)) in
    let same = packed_ext m _ (λ j. eqb (x / 2 ^ suc j % 2) 1) (λ j l. ap (λ (y : ℕ). eqb (y % 2) 1) (more j)) in
    omega (arith, half, same, rest)

-- ---- parts of a word

-- a word has 0 for the bits that are false from k on
packed_past : (k m : ℕ) (f : ℕ → Bool) → ((j : ℕ) → k ≤ j → f j ≡ false) → packed (k + m) f ≡ packed k f
packed_past k m f h =
    let none = packed_none m (λ j. f (k + j)) (λ j l. h (k + j) (omega arith)) in
    packed_append k m f ∙ omega (arith, ap (λ (x : ℕ). x * 2 ^ k) none)

module _ (k m : ℕ) (f : ℕ → Bool) where
  cut_at : packed (k + m) f % 2 ^ k ≡ packed (k + m) (λ j. ltb j k && f j)
  cut_at =
      let kept : ℕ → Bool = λ j. ltb j k && f j in
      ap (λ (x : ℕ). x % 2 ^ k) (packed_append k m f)
      ∙ low (packed m (λ j. f (k + j))) k (packed_lt k f)
      ∙ packed_ext k f kept (λ j l. sym (rw (lt-ltb j k l)))
      ∙ sym (packed_past k m kept (λ j l. rw (le-ltb j k l)))

  shifted_by : packed (k + m) f / 2 ^ k ≡ packed (k + m) (λ j. ltb (k + j) (k + m) && f (k + j))
  shifted_by =
      let moved : ℕ → Bool = λ j. ltb (k + j) (k + m) && f (k + j) in
      ap (λ (x : ℕ). x / 2 ^ k) (packed_append k m f)
      ∙ high (packed m (λ j. f (k + j))) k (packed_lt k f)
      ∙ packed_ext m (λ j. f (k + j)) moved (λ j l. sym (rw (lt-ltb (k + j) (k + m) (omega arith))))
      ∙ sym (packed_past m k moved (λ j l. rw (le-ltb (k + j) (k + m) (omega arith))))
      ∙ ap (λ (x : ℕ). packed x moved) (add_comm m k)

module _ (w k : ℕ) (f : ℕ → Bool) (h : k ≤ w) where
  whole : k + (w - k) ≡ w
  whole = omega arith

  -- the rest of a word by 2^k has its bits below k
  pub packed_cut : packed w f % 2 ^ k ≡ packed w (λ j. ltb j k && f j)
  packed_cut = subst (λ (x : ℕ). packed x f % 2 ^ k ≡ packed x (λ j. ltb j k && f j)) whole (cut_at k (w - k) f)

  -- a word shifted by k has each bit k lower
  pub packed_shift : packed w f / 2 ^ k ≡ packed w (λ j. ltb (k + j) w && f (k + j))
  packed_shift = subst (λ (x : ℕ). packed x f / 2 ^ k ≡ packed x (λ j. ltb (k + j) x && f (k + j))) whole (shifted_by k (w - k) f)

-- ---- the bits of a number by its bits

bit_of_lem : (b : Bool) → eqb (bit_of b) 1 ≡ b
bit_of_lem true = refl
bit_of_lem false = refl

-- a number by its bits has them
pub packed_bit : (m j : ℕ) (f : ℕ → Bool) → j < m → bit_in (packed m f) j ≡ f j
unfolding packed
packed_bit zero j f h = absurd (omega arith)
packed_bit (suc m) zero f h =
    let all = packed m (λ i. f (suc i)) * 2 + bit_of (f 0) in
    let whole : all / 1 ≡ all = omega arith in
    ap (λ (x : ℕ). eqb (x % 2) 1) whole ∙ ap (λ (x : ℕ). eqb x 1) (digits_mod (packed m (λ i. f (suc i))) (bit_of_lt (f 0))) ∙ bit_of_lem (f 0)
packed_bit (suc m) (suc j) f h =
    let rest = packed m (λ i. f (suc i)) in
    let all = rest * 2 + bit_of (f 0) in
    let half : all / 2 ≡ rest = digits_div rest (bit_of_lt (f 0)) in
    let one : suc j ≡ 1 + j = omega arith in
    ap (bit_in all) one
    ∙ ap (λ (x : ℕ). eqb (x % 2) 1) (sym (shr-shr all 1 j) ∙ ap (λ (x : ℕ). x / 2 ^ j) half)
    ∙ packed_bit m j (λ i. f (suc i)) (omega arith)
