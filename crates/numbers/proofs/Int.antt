-- Integers for `omega`, which reads natural numbers only: an integer z is up z − dn z, its parts above and below zero. Each operation,
-- order, equation and test of integers is stated as a fact of parts, so that a fact of integers is one call of `omega` with the parts of
-- the sums and products that it names. Assumes nothing.
use mathlib.Core.Path.{◌≡◌, refl, sym, ap, ◌∙◌, subst₂}
use mathlib.Core.Bool.{Bool, true, false, not, cond}
use Prim.Native.Nat.{ℕ, zero, suc, ◌+◌, ◌*◌, ◌-◌, ◌^◌, ◌≤◌, ◌<◌, min}
use native.Mathlib.Omega.{arith}
use native.Mathlib.Nat.{add-zero, zero-add}
use borrow.Author.Tests.{leb-true, leb-false, ltb-true, ltb-false, le-leb, lt-leb, lt-ltb, le-ltb}
use mir.Syntax.{Width}
use mir.Val.{hbits, to_z, of_z, SFits}
use mir.Facts.{to_z-of_z}
use lib.Dec.{T, leb, ltb, leb-suc-suc, leb→le, le→leb, ltb→lt, lt→ltb, nltb→le}
use lib.IntN.{ℤ, pos, negsuc, neg_ℤ, nat_abs, sub_ℕ, ◌+ℤ◌, ◌-ℤ◌, ◌*ℤ◌}
use lib.Signed.{◌≤ℤ◌, ◌<ℤ◌, mag, lt_z, le_z}

-- the part above zero
abbrev pub up : ℤ → ℕ
up (pos n) = n
up (negsuc n) = 0

-- the part below zero
abbrev pub dn : ℤ → ℕ
dn (pos n) = 0
dn (negsuc n) = suc n

-- one of the two parts is 0
pub one_part : (a : ℤ) → min (up a) (dn a) ≡ 0
one_part (pos n) = omega arith
one_part (negsuc n) = omega arith

-- ---- the operations

-- a negation exchanges the parts
pub parts_neg : (a : ℤ) → (up (neg_ℤ a) ≡ dn a) × (dn (neg_ℤ a) ≡ up a)
parts_neg (pos zero) = (refl, refl)
parts_neg (pos (suc n)) = (refl, refl)
parts_neg (negsuc n) = (refl, refl)

difference_by : (m n : ℕ) (t : Bool) → (T t → m < n) → (T (not t) → n ≤ m)
    → up (cond t (negsuc (n - suc m)) (pos (m - n))) + n ≡ dn (cond t (negsuc (n - suc m)) (pos (m - n))) + m
difference_by m n true f g = let h : m < n = f tt in omega arith
difference_by m n false f g = let h : n ≤ m = g tt in omega arith

-- the parts of the difference of two natural numbers
pub parts_difference : (m n : ℕ) → up (sub_ℕ m n) + n ≡ dn (sub_ℕ m n) + m
parts_difference m n = difference_by m n (ltb m n) (ltb→lt m n) (nltb→le m n)

-- the parts of a sum
pub parts_add : (a b : ℤ) → up (a +ℤ b) + (dn a + dn b) ≡ dn (a +ℤ b) + (up a + up b)
parts_add (pos a) (pos b) = omega arith
parts_add (pos a) (negsuc b) = omega (arith, parts_difference a (suc b))
parts_add (negsuc a) (pos b) = omega (arith, parts_difference b (suc a))
parts_add (negsuc a) (negsuc b) = omega arith

-- the parts of a difference
pub parts_sub : (a b : ℤ) → up (a -ℤ b) + (dn a + up b) ≡ dn (a -ℤ b) + (up a + dn b)
parts_sub a b = omega (arith, parts_add a (neg_ℤ b), parts_neg b)

-- the parts of a product
pub parts_mul : (a b : ℤ) → up (a *ℤ b) + (up a * dn b + dn a * up b) ≡ dn (a *ℤ b) + (up a * up b + dn a * dn b)
parts_mul (pos a) (pos b) = omega arith
parts_mul (pos a) (negsuc b) = omega (arith, parts_neg (pos (a * suc b)))
parts_mul (negsuc a) (pos b) = omega (arith, parts_neg (pos (suc a * b)))
parts_mul (negsuc a) (negsuc b) = omega arith

-- ---- equations, tests and orders. `parts-..` is for a goal, `..-parts` for a hypothesis

-- integers are equal where their parts balance
pub parts_eq : {a b : ℤ} → up a + dn b ≡ up b + dn a → a ≡ b
parts_eq {a = pos a} {b = pos b} h = ap pos (omega arith)
parts_eq {a = pos a} {b = negsuc b} h = absurd (omega arith)
parts_eq {a = negsuc a} {b = pos b} h = absurd (omega arith)
parts_eq {a = negsuc a} {b = negsuc b} h = ap negsuc (omega arith)

-- the parts of equal integers balance
pub eq_parts : {a b : ℤ} → a ≡ b → up a + dn b ≡ up b + dn a
eq_parts e = rw e

-- a test of integers is one of parts
pub le_z_parts : (a b : ℤ) → le_z a b ≡ leb (up a + dn b) (up b + dn a)
le_z_parts (pos a) (pos b) = simp add-zero
le_z_parts (pos a) (negsuc b) = sym (lt-leb (a + suc b) (0 + 0) (omega arith))
le_z_parts (negsuc a) (pos b) = sym (le-leb (0 + 0) (b + suc a) (omega arith))
le_z_parts (negsuc a) (negsuc b) = simp (zero-add, leb-suc-suc)

pub lt_z_parts : (a b : ℤ) → lt_z a b ≡ ltb (up a + dn b) (up b + dn a)
lt_z_parts (pos a) (pos b) = simp add-zero
lt_z_parts (pos a) (negsuc b) = sym (le-ltb (a + suc b) (0 + 0) (omega arith))
lt_z_parts (negsuc a) (pos b) = sym (lt-ltb (0 + 0) (b + suc a) (omega arith))
lt_z_parts (negsuc a) (negsuc b) = simp (zero-add, leb-suc-suc)

-- an order of parts is one of integers
pub parts_le : {a b : ℤ} → up a + dn b ≤ up b + dn a → a ≤ℤ b
parts_le {a} {b} h = record { le = rw (le_z_parts a b) (le→leb _ _ h) }

-- an order of integers is one of parts
pub le_parts : {a b : ℤ} → a ≤ℤ b → up a + dn b ≤ up b + dn a
le_parts {a} {b} h = leb→le _ _ (rw (le_z_parts a b) at h.le)

-- the same of strict orders
pub parts_lt : {a b : ℤ} → up a + dn b < up b + dn a → a <ℤ b
parts_lt {a} {b} h = record { lt = rw (lt_z_parts a b) (lt→ltb _ _ h) }

pub lt_parts : {a b : ℤ} → a <ℤ b → up a + dn b < up b + dn a
lt_parts {a} {b} h = ltb→lt _ _ (rw (lt_z_parts a b) at h.lt)

-- what `le_z` says of the parts where it passes, and where it fails
pub le_z_true : (a b : ℤ) → le_z a b ≡ true → up a + dn b ≤ up b + dn a
le_z_true a b e = leb-true _ _ (sym (le_z_parts a b) ∙ e)

pub le_z_false : (a b : ℤ) → le_z a b ≡ false → up b + dn a < up a + dn b
le_z_false a b e = leb-false _ _ (sym (le_z_parts a b) ∙ e)

-- what `lt_z` says of them
pub lt_z_true : (a b : ℤ) → lt_z a b ≡ true → up a + dn b < up b + dn a
lt_z_true a b e = ltb-true _ _ (sym (lt_z_parts a b) ∙ e)

pub lt_z_false : (a b : ℤ) → lt_z a b ≡ false → up b + dn a ≤ up a + dn b
lt_z_false a b e = ltb-false _ _ (sym (lt_z_parts a b) ∙ e)

-- parts at which `le_z` passes, and at which it fails
pub le_le_z : (a b : ℤ) → up a + dn b ≤ up b + dn a → le_z a b ≡ true
le_le_z a b h = le_z_parts a b ∙ le-leb _ _ h

pub lt_le_z : (a b : ℤ) → up b + dn a < up a + dn b → le_z a b ≡ false
lt_le_z a b h = le_z_parts a b ∙ lt-leb _ _ h

-- parts at which `lt_z` does
pub lt_lt_z : (a b : ℤ) → up a + dn b < up b + dn a → lt_z a b ≡ true
lt_lt_z a b h = lt_z_parts a b ∙ lt-ltb _ _ h

pub le_lt_z : (a b : ℤ) → up b + dn a ≤ up a + dn b → lt_z a b ≡ false
le_lt_z a b h = lt_z_parts a b ∙ le-ltb _ _ h

-- the rules of `omega` above: `omega integers` proves an order, an equation or a test of integers from others
pub ruleset integers = (arith, parts_eq, eq_parts, parts_le, le_parts, parts_lt, lt_parts, le_z_true, le_z_false, lt_z_true, lt_z_false, le_le_z, lt_le_z, lt_lt_z, le_lt_z)

-- a − b is not negative exactly if b is at most a
pub le_z_sub : (a b : ℤ) → le_z (pos 0) (a -ℤ b) ≡ le_z b a
le_z_sub a b = by_test (le_z b a) refl
  where
    by_test : (t : Bool) → le_z b a ≡ t → le_z (pos 0) (a -ℤ b) ≡ t
    by_test true e = omega (integers, parts_sub a b)
    by_test false e = omega (integers, parts_sub a b)

-- orders follow one another
pub ≤ℤ_trans : {a b c : ℤ} → a ≤ℤ b → b ≤ℤ c → a ≤ℤ c
≤ℤ_trans {a} {b} {c} h k = omega integers

-- orders add up
pub ≤ℤ_add : {a b c d : ℤ} → a ≤ℤ b → c ≤ℤ d → (a +ℤ c) ≤ℤ (b +ℤ d)
≤ℤ_add {a} {b} {c} {d} h k = omega (integers, parts_add a c, parts_add b d)

-- the two sides of an order, each put in another form
pub ≤ℤ_eq : {a b c d : ℤ} → a ≤ℤ b → a ≡ c → b ≡ d → c ≤ℤ d
≤ℤ_eq h e f = subst₂ ◌≤ℤ◌ e f h

-- a natural number is not negative
pub pos_nonneg : (n : ℕ) → pos 0 ≤ℤ pos n
pos_nonneg n = omega integers

-- ---- sizes and ranges

-- the size of an integer is the sum of its parts
pub nat_abs_parts : (a : ℤ) → nat_abs a ≡ up a + dn a
nat_abs_parts (pos n) = omega arith
nat_abs_parts (negsuc n) = omega arith

-- the size of a sum is at most the sum of the sizes
pub size_add : (a b : ℤ) → up (a +ℤ b) + dn (a +ℤ b) ≤ up a + dn a + (up b + dn b)
size_add a b = omega (arith, parts_add a b, one_part (a +ℤ b))

-- the size of a product is the product of the sizes
pub size_mul : (a b : ℤ) → up (a *ℤ b) + dn (a *ℤ b) ≡ (up a + dn a) * (up b + dn b)
size_mul (pos a) (pos b) = omega arith
size_mul (pos a) (negsuc b) = omega (arith, parts_neg (pos (a * suc b)))
size_mul (negsuc a) (pos b) = omega (arith, parts_neg (pos (suc a * b)))
size_mul (negsuc a) (negsuc b) = omega arith

-- `mag a` is what a signed width bounds: a bound of it from the parts
pub parts_mag : (a : ℤ) {b : ℕ} → (up a < b + dn a) × (dn a ≤ b + up a) → mag a < b
parts_mag (pos n) h = omega arith
parts_mag (negsuc n) h = omega arith

-- the parts are bounded by `mag a`
pub mag_parts : (a : ℤ) → (up a ≤ mag a) × (dn a ≤ suc (mag a))
mag_parts (pos n) = omega arith
mag_parts (negsuc n) = omega arith

-- the same bound, of a width
pub parts_fits : {w : Width} {a : ℤ} → (up a < 2 ^ hbits w + dn a) × (dn a ≤ 2 ^ hbits w + up a) → SFits w a
parts_fits {w} {a} h = record { sfits = parts_mag a h }

-- an integer in the range of a signed width is read back from its bits
pub back : (w : Width) {a : ℤ} → mag a < 2 ^ hbits w → to_z w (of_z w a) ≡ a
back w h = to_z-of_z (record { sfits = h })
