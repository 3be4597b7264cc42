-- The ring of integers: the laws of products that `lib.IntN` lacks, two normalisers, and orders of products and squares. `simp ring` sorts
-- sums of products and proves identities without minus signs, in any number of variables. `D p n` is p − n; `simp dring` makes one such
-- difference of an expression over others, and `omega` compares two of them, so it proves identities and orders with minus signs.
-- Assumes nothing.
use mathlib.Core.Path.{◌≡◌, sym, ◌∙◌, ap, ap₂}
use Prim.Native.Nat.{ℕ, suc, ◌+◌, ◌*◌, ◌<◌, ◌≤◌}
use native.Mathlib.Nat.{mul-le-mul_left}
use native.Mathlib.Decide.{dec_le}
use native.Mathlib.Omega.{arith}
use lib.IntN.{ℤ, pos, negsuc, ◌+ℤ◌, ◌-ℤ◌, ◌*ℤ◌, neg_ℤ, sub_ℕ, +ℤ_assoc, +ℤ_comm, *ℤ_comm, +ℤ_idl, +ℤ_idr, *ℤ-zero, zero-*ℤ, neg_ℤ-+ℤ, neg_ℤ-neg_ℤ}
use lib.Signed.{◌≤ℤ◌}
use Rattle.numbers.proofs.Int.{up, dn, parts_difference, parts_add, parts_sub, parts_mul, parts_neg, parts_le, integers}

-- an equation of natural numbers, times a third
times : (k : ℕ) {m n : ℕ} → m ≡ n → m * k ≡ n * k
times k e = ap (λ (x : ℕ). x * k) e

-- a product of three is bracketed either way
pub *ℤ_assoc : (a b c : ℤ) → (a *ℤ b) *ℤ c ≡ a *ℤ (b *ℤ c)
*ℤ_assoc a b c =
    omega (
      integers,
      parts_mul (a *ℤ b) c,
      parts_mul a (b *ℤ c),
      times (up c) (parts_mul a b),
      times (dn c) (parts_mul a b),
      times (up a) (parts_mul b c),
      times (dn a) (parts_mul b c),
    )

-- a product distributes over a sum, on the left and on the right
pub *ℤ_distl : (a b c : ℤ) → a *ℤ (b +ℤ c) ≡ a *ℤ b +ℤ a *ℤ c
*ℤ_distl a b c =
    omega (
      integers,
      parts_mul a (b +ℤ c),
      parts_add (a *ℤ b) (a *ℤ c),
      parts_mul a b,
      parts_mul a c,
      times (up a) (parts_add b c),
      times (dn a) (parts_add b c),
    )

pub *ℤ_distr : (a b c : ℤ) → (a +ℤ b) *ℤ c ≡ a *ℤ c +ℤ b *ℤ c
*ℤ_distr a b c = *ℤ_comm (a +ℤ b) c ∙ *ℤ_distl c a b ∙ ap₂ ◌+ℤ◌ (*ℤ_comm c a) (*ℤ_comm c b)

-- a minus sign goes out of either factor
pub *ℤ_negr : (a b : ℤ) → a *ℤ neg_ℤ b ≡ neg_ℤ (a *ℤ b)
*ℤ_negr a b =
    omega (
      integers,
      parts_mul a (neg_ℤ b),
      parts_mul a b,
      parts_neg (a *ℤ b),
      times (up a) (parts_neg b).0,
      times (up a) (parts_neg b).1,
      times (dn a) (parts_neg b).0,
      times (dn a) (parts_neg b).1,
    )

pub *ℤ_negl : (a b : ℤ) → neg_ℤ a *ℤ b ≡ neg_ℤ (a *ℤ b)
*ℤ_negl a b = *ℤ_comm (neg_ℤ a) b ∙ *ℤ_negr b a ∙ ap neg_ℤ (*ℤ_comm b a)

-- the first two of three summands, or factors, change places
pub +ℤ_left_comm : (a b c : ℤ) → a +ℤ (b +ℤ c) ≡ b +ℤ (a +ℤ c)
+ℤ_left_comm a b c = sym (+ℤ_assoc a b c) ∙ ap (λ (x : ℤ). x +ℤ c) (+ℤ_comm a b) ∙ +ℤ_assoc b a c

pub *ℤ_left_comm : (a b c : ℤ) → a *ℤ (b *ℤ c) ≡ b *ℤ (a *ℤ c)
*ℤ_left_comm a b c = sym (*ℤ_assoc a b c) ∙ ap (λ (x : ℤ). x *ℤ c) (*ℤ_comm a b) ∙ *ℤ_assoc b a c

-- the factors 1, 2 and −1
pub *ℤ_idl : (a : ℤ) → pos 1 *ℤ a ≡ a
*ℤ_idl a = omega (integers, parts_mul (pos 1) a)

pub *ℤ_idr : (a : ℤ) → a *ℤ pos 1 ≡ a
*ℤ_idr a = *ℤ_comm a (pos 1) ∙ *ℤ_idl a

pub *ℤ_twol : (a : ℤ) → pos 2 *ℤ a ≡ a +ℤ a
*ℤ_twol a = omega (integers, parts_mul (pos 2) a, parts_add a a)

pub *ℤ_twor : (a : ℤ) → a *ℤ pos 2 ≡ a +ℤ a
*ℤ_twor a = *ℤ_comm a (pos 2) ∙ *ℤ_twol a

pub *ℤ_minusl : (a : ℤ) → negsuc 0 *ℤ a ≡ neg_ℤ a
*ℤ_minusl a = omega (integers, parts_mul (negsuc 0) a, parts_neg a)

pub *ℤ_minusr : (a : ℤ) → a *ℤ negsuc 0 ≡ neg_ℤ a
*ℤ_minusr a = *ℤ_comm a (negsuc 0) ∙ *ℤ_minusl a

-- rewriting by these sorts an expression: sums of products, bracketed to the right
pub ruleset ring = (
  *ℤ_distl,
  *ℤ_distr,
  *ℤ_negl,
  *ℤ_negr,
  neg_ℤ-+ℤ,
  neg_ℤ-neg_ℤ,
  +ℤ_assoc,
  +ℤ_comm,
  +ℤ_left_comm,
  *ℤ_assoc,
  *ℤ_comm,
  *ℤ_left_comm,
  +ℤ_idl,
  +ℤ_idr,
  *ℤ-zero,
  zero-*ℤ,
  *ℤ_idl,
  *ℤ_idr,
  *ℤ_twol,
  *ℤ_twor,
  *ℤ_minusl,
  *ℤ_minusr,
)

-- ---- differences

-- p − n, shut, so that a normaliser sees it
pub D : ℕ → ℕ → ℤ
D p n = sub_ℕ p n

-- the parts of a difference
pub parts_D : (p n : ℕ) → up (D p n) + n ≡ dn (D p n) + p
unfolding D
parts_D p n = parts_difference p n

-- two differences are equal, or in order, where sums of natural numbers are
pub D-eq : (p n q m : ℕ) → p + m ≡ q + n → D p n ≡ D q m
D-eq p n q m h = omega (integers, parts_D p n, parts_D q m)

-- an integer is the difference of its parts
pub rep : (a : ℤ) → a ≡ D (up a) (dn a)
rep a = omega (integers, parts_D (up a) (dn a))

-- sums, negations and products of differences
pub D-add : (p n q m : ℕ) → D p n +ℤ D q m ≡ D (p + q) (n + m)
D-add p n q m = omega (integers, parts_add (D p n) (D q m), parts_D p n, parts_D q m, parts_D (p + q) (n + m))

pub D-neg : (p n : ℕ) → neg_ℤ (D p n) ≡ D n p
D-neg p n = omega (integers, parts_neg (D p n), parts_D p n, parts_D n p)

pub D-mul : (p n q m : ℕ) → D p n *ℤ D q m ≡ D (p * q + n * m) (p * m + n * q)
D-mul p n q m =
    omega (
      integers,
      parts_mul (D p n) (D q m),
      parts_D (p * q + n * m) (p * m + n * q),
      times (up (D q m)) (parts_D p n),
      times (dn (D q m)) (parts_D p n),
      times p (parts_D q m),
      times n (parts_D q m),
    )

-- a number as a difference
pub D-pos : (n : ℕ) → pos n ≡ D n 0
D-pos n = rep (pos n)

pub D-negsuc : (n : ℕ) → negsuc n ≡ D 0 (suc n)
D-negsuc n = rep (negsuc n)

-- an expression over differences is one difference: `rw (rep a, rep b) (simp dring (D-eq _ _ _ _ (omega arith)))`
pub ruleset dring = (D-add, D-neg, D-mul, D-pos, D-negsuc)

-- ---- orders of products

-- a ≤ b where b is a and something that is not negative
pub ≤ℤ_by : {a b : ℤ} (d : ℤ) → pos 0 ≤ℤ d → a +ℤ d ≡ b → a ≤ℤ b
≤ℤ_by {a} {b} d h e = omega (integers, parts_add a d)

-- a product of numbers that are not negative is not negative
pub nonneg_mul : {a b : ℤ} → pos 0 ≤ℤ a → pos 0 ≤ℤ b → pos 0 ≤ℤ (a *ℤ b)
nonneg_mul {a = pos a} {b = pos b} h k = omega integers
nonneg_mul {a = pos a} {b = negsuc b} h k = absurd k.le
nonneg_mul {a = negsuc a} {b = b} h k = absurd h.le

-- a square is not negative
pub sq_nonneg : (a : ℤ) → pos 0 ≤ℤ (a *ℤ a)
sq_nonneg (pos a) = omega integers
sq_nonneg (negsuc a) = omega integers

-- an order, times a number that is not negative
pub ≤ℤ_mul : {a b : ℤ} (c : ℤ) → pos 0 ≤ℤ c → a ≤ℤ b → (c *ℤ a) ≤ℤ (c *ℤ b)
≤ℤ_mul {a} {b} c h k =
    ≤ℤ_by (c *ℤ (b -ℤ a)) (nonneg_mul h (omega (integers, parts_sub b a))) (rw (rep a, rep b, rep c) (simp dring (D-eq _ _ _ _ (omega arith))))

-- twice a product is at most the sum of the squares
pub amgm : (a b : ℤ) → (pos 2 *ℤ (a *ℤ b)) ≤ℤ (a *ℤ a +ℤ b *ℤ b)
amgm a b = ≤ℤ_by ((a -ℤ b) *ℤ (a -ℤ b)) (sq_nonneg (a -ℤ b)) (rw (rep a, rep b) (simp dring (D-eq _ _ _ _ (omega arith))))

-- a factor above 0 is taken off both sides
pub ≤ℤ_mul_cancel : {a b : ℤ} (k : ℕ) → (pos (suc k) *ℤ a) ≤ℤ (pos (suc k) *ℤ b) → a ≤ℤ b
≤ℤ_mul_cancel {a} {b} k h = by_cases (dec_le (up a + dn b) (up b + dn a))
  where
    by_cases : Dec (up a + dn b ≤ up b + dn a) → a ≤ℤ b
    by_cases (yes l) = parts_le l
    by_cases (no f) =
        let g : up b + dn a < up a + dn b = omega arith in
        absurd (omega (integers, parts_mul (pos (suc k)) a, parts_mul (pos (suc k)) b, mul-le-mul_left (suc k) g))
