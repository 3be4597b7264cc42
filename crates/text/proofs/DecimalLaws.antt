-- The digits of a number: of one below ten, of any other, and how many there are; a text that is written from its end; and texts in turn,
-- as a loop writes them. Assumes nothing.
use mathlib.Core.Path.{◌≡◌, refl, sym, ◌∙◌, ap}
use mathlib.Core.Bool.{Bool, true, false, cond}
use mathlib.Core.List.{List, [], ◌∷◌, ◌++◌, append_assoc, append-nil}
use Prim.Native.Nat.{ℕ, zero, suc, ◌+◌, ◌/◌, ◌%◌, ◌^◌, ◌≤◌, ◌<◌}
use native.Mathlib.Nat.{add-zero, zero-add, add-suc, suc-add, add_assoc}
use native.Mathlib.Omega.{arith}
use lib.Dec.{ltb}
use lib.ListN.{length, take, drop, length-append}
use lib.Seq.{length-take-le, take-append-le, take-take, drop_at}
use borrow.Author.Tests.{ltb-true, ltb-false, lt-ltb, le-ltb}
use Rattle.codec.specs.Written.{written_at}
use Rattle.text.specs.Text.{digits, decimal}

-- ---- digits

digits_last : (most x : ℕ) → x < 10 → digits (suc most) x ≡ (48 + x) ∷ []
unfolding digits
digits_last most x h = rw (lt-ltb x 10 h)

digits_more : (most x : ℕ) → 10 ≤ x → digits (suc most) x ≡ digits most (x / 10) ++ ((48 + x % 10) ∷ [])
unfolding digits
digits_more most x h = rw (le-ltb x 10 h)

-- room for one digit more than a number may have changes nothing
digits_enough : (most x : ℕ) → x < 10 ^ suc most → digits (suc (suc most)) x ≡ digits (suc most) x
digits_enough zero x h = digits_last 1 x (omega arith) ∙ sym (digits_last 0 x (omega arith))
digits_enough (suc most) x h = by (ltb x 10) refl (digits_enough most (x / 10) (omega arith))
  where
    by : (t : Bool) → ltb x 10 ≡ t → digits (suc (suc most)) (x / 10) ≡ digits (suc most) (x / 10) → digits (suc (suc (suc most))) x ≡ digits (suc (suc most)) x
    by true e tenth = digits_last (suc (suc most)) x (ltb-true x 10 e) ∙ sym (digits_last (suc most) x (ltb-true x 10 e))
    by false e tenth = rw (digits_more (suc (suc most)) x (ltb-false x 10 e), tenth) (sym (digits_more (suc most) x (ltb-false x 10 e)))

-- a number below ten is one digit
pub decimal_one : (x : ℕ) → x < 10 → decimal x ≡ (48 + x) ∷ []
unfolding decimal
decimal_one x h = digits_last 19 x h

-- the last digit of any other stands behind those of its tenth
pub decimal_more : (x : ℕ) → 10 ≤ x → x < 2 ^ 64 → decimal x ≡ decimal (x / 10) ++ ((48 + x % 10) ∷ [])
unfolding decimal
decimal_more x h k = rw (digits_enough 18 (x / 10) (omega arith)) (digits_more 19 x h)

-- ---- how many

-- its tenth has a digit less
pub decimal_less : (x : ℕ) → 10 ≤ x → x < 2 ^ 64 → length (decimal x) ≡ length (decimal (x / 10)) + 1
decimal_less x h k = rw (decimal_more x h k, length-append)

-- one digit more than the tenth has
digits_step : (most x n : ℕ) → length (digits most (x / 10)) ≤ n → length (digits (suc most) x) ≤ suc n
unfolding digits
digits_step most x n h = by (ltb x 10)
  where
    by : (t : Bool) → length (cond t ((48 + x) ∷ []) (digits most (x / 10) ++ ((48 + x % 10) ∷ []))) ≤ suc n
    by true = omega arith
    by false = rw length-append (omega arith)

digits_within : (most x : ℕ) → length (digits most x) ≤ most
unfolding digits
digits_within zero x = omega arith
digits_within (suc most) x = digits_step most x most (digits_within most (x / 10))

digits_most : (d most x : ℕ) → x < 10 ^ suc d → length (digits most x) ≤ suc d
unfolding digits
digits_most d zero x h = omega arith
digits_most zero (suc most) x h = omega (arith, ap length (digits_last most x (omega arith)))
digits_most (suc d) (suc most) x h = digits_step most x (suc d) (digits_most d most (x / 10) (omega arith))

-- a number has at most twenty digits
pub decimal_twenty : (x : ℕ) → length (decimal x) ≤ 20
unfolding decimal
decimal_twenty x = digits_within 20 x

-- one below a power of ten has at most so many
pub decimal_most : (d x : ℕ) → x < 10 ^ suc d → length (decimal x) ≤ suc d
unfolding decimal
decimal_most d x h = digits_most d 20 x h

-- a number has a digit
pub decimal_some : (x : ℕ) → 1 ≤ length (decimal x)
unfolding decimal digits
decimal_some x = by (ltb x 10)
  where
    by : (t : Bool) → 1 ≤ length (cond t ((48 + x) ∷ []) (digits 19 (x / 10) ++ ((48 + x % 10) ∷ [])))
    by true = omega arith
    by false = rw length-append (omega arith)

-- ---- from the end

-- the second part of a text written first, and the first part before it
pub written_before : (old : List ℕ) (at : ℕ) (x y : List ℕ) → at + length x ≤ length old
    → written_at (written_at old (at + length x) y) at x ≡ written_at old at (x ++ y)
written_before old at x y h =
    let next = at + length x in
    let front : length (take next old) ≡ next = length-take-le next old h in
    let rest : List ℕ = y ++ drop (next + length y) old in
    let head : take at (written_at old next y) ≡ take at old = take-append-le at (take next old) rest (omega arith) ∙ take-take at next old (omega arith) in
    let behind : drop next (written_at old next y) ≡ rest = drop_at (take next old) rest next front in
    rw (head, behind) (simp (length-append, add_assoc, append_assoc))

-- ---- in turn: m texts from a place on are `all m place`, and the one at a place is `one place`

module _ (all : ℕ → ℕ → List ℕ) (one : ℕ → List ℕ) (none : (place : ℕ) → all zero place ≡ []) (first : (m place : ℕ) → all (suc m) place ≡ one place ++ all m (suc place)) where
  -- one more comes last
  pub one_after_last : (m place : ℕ) → all (m + 1) place ≡ all m place ++ one (place + m)
  one_after_last zero place = rw (zero-add, first 0 place, none (suc place), append-nil, none place, add-zero)
  one_after_last (suc m) place = rw (suc-add, first (m + 1) place, one_after_last m (suc place), first m place, append_assoc, add-suc, suc-add)
