-- What a test says, and the test of what holds: of two tests at once, of tests that agree, of equal integers, of a test at each number
-- below a bound, and of a limit on the numbers of a list. Assumes nothing.
use mathlib.Core.Path.{◌≡◌, refl, sym, ◌∙◌, ap, subst}
use mathlib.Core.Bool.{Bool, true, false, beq, not, ◌&&◌, ◌||◌}
use mathlib.Core.Logic.{◌↔◌}
use mathlib.Core.List.{List, [], ◌∷◌}
use Prim.Native.Nat.{ℕ, zero, suc, ◌+◌, ◌≤◌, ◌<◌}
use native.Mathlib.Decide.{ℕ_discrete}
use native.Mathlib.Numerals.{add-one}
use native.Mathlib.Omega.{arith}
use lib.Dec.{leb, eqb}
use lib.ListN.{length, drop, get_or, drop_of_length-le}
use lib.Seq.{drop-cons}
use lib.IntN.{ℤ}
use lib.Signed.{le_z}
use borrow.Author.Tests.{lt-leb, le-leb, leb-true, eq-eqb, ne_eqb}
use Rattle.numbers.specs.Tests.{same_bool, same_z, all_at_most, all_below}
use Rattle.numbers.proofs.Int.{integers}

-- no test both fails and passes
pub no_true : false ≡ true → ⊥
no_true e = let z : ◌≡◌ {A = ℕ} 0 1 = cc in omega arith

-- a test that does not pass fails
pub not_passed : (a : Bool) → (a ≡ true → ⊥) → a ≡ false
not_passed true h = absurd (h refl)
not_passed false h = refl

-- a test that passes unless a number is 0
pub unless_zero : (x : ℕ) (b : Bool) → (x ≡ 0 → b ≡ false) → (b ≡ false → x ≡ 0) → not (eqb x 0) ≡ b
unless_zero x true fails none = ap not (ne_eqb x 0 (λ z. no_true (sym (fails z))))
unless_zero x false fails none = ap not (eq-eqb x 0 (none refl))

-- both tests pass: the first does
pub and_left : (a b : Bool) → (a && b) ≡ true → a ≡ true
and_left true b e = refl
and_left false b e = e

-- both tests pass: the second does
pub and_right : (a b : Bool) → (a && b) ≡ true → b ≡ true
and_right true b e = e
and_right false b e = absurd (no_true e)

-- two tests that pass, passed together
pub and_both : {a b : Bool} → a ≡ true → b ≡ true → (a && b) ≡ true
and_both {a = true} {b = b} p q = q
and_both {a = false} {b = b} p q = p

-- neither of two tests passes: the first fails
pub or_false_left : (a b : Bool) → (a || b) ≡ false → a ≡ false
or_false_left true b e = e
or_false_left false b e = refl

-- neither of two tests passes: the second fails
pub or_false_right : (a b : Bool) → (a || b) ≡ false → b ≡ false
or_false_right true b e = absurd (no_true (sym e))
or_false_right false b e = e

-- two tests that fail, of which neither passes
pub or_neither : {a b : Bool} → a ≡ false → b ≡ false → (a || b) ≡ false
or_neither {a = true} {b = b} p q = p
or_neither {a = false} {b = b} p q = q

-- a test that passes wherever another does
pub where_passed : (a b : Bool) {A : Type 0} → (a ≡ true ↔ A) → (not a || b) ≡ true ↔ (A → b ≡ true)
where_passed true b f = (λ e p. e, λ h. h (f.0 refl))
where_passed false b f = (λ e p. absurd (no_true (f.1 p)), λ h. refl)

-- tests that agree are equal
pub same_bool_eq : (a b : Bool) → same_bool a b ≡ true → a ≡ b
same_bool_eq true b e = sym e
same_bool_eq false true e = absurd (no_true e)
same_bool_eq false false e = refl

-- a test agrees with itself
pub same_bool_refl : (a : Bool) → same_bool a a ≡ true
same_bool_refl true = refl
same_bool_refl false = refl

-- equal tests agree
pub eq_same_bool : (a b : Bool) → a ≡ b → same_bool a b ≡ true
eq_same_bool a b e = subst (λ (x : Bool). same_bool a x ≡ true) e (same_bool_refl a)

-- the code's `==` of two tests is whether they agree
pub same_bool_beq : (a b : Bool) → beq a b ≡ same_bool a b
same_bool_beq true true = refl
same_bool_beq true false = refl
same_bool_beq false true = refl
same_bool_beq false false = refl

-- the test of two integers passes exactly if they are equal
pub same_z_correct : (x y : ℤ) → same_z x y ≡ true ↔ x ≡ y
same_z_correct x y = (
  λ e. (let l = and_left (le_z x y) (le_z y x) e in let g = and_right (le_z x y) (le_z y x) e in omega integers),
  λ e. and_both {a = le_z x y} {b = le_z y x} (omega integers) (omega integers),
)

-- the test passes at each number below 0
pub all_below_zero : (f : ℕ → Bool) → all_below 0 f ≡ true
unfolding all_below
all_below_zero f = refl

-- the numbers below m + 1 are those below m, and m
pub all_below_suc : (m : ℕ) (f : ℕ → Bool) → all_below (suc m) f ≡ (all_below m f && f m)
unfolding all_below
all_below_suc m f = refl

-- what passes below m and at m passes below m + 1
pub all_below_more : (m : ℕ) (f : ℕ → Bool) → all_below m f ≡ true → f m ≡ true → all_below (m + 1) f ≡ true
all_below_more m f p q = rw (add-one, all_below_suc) (and_both p q)

-- what passes at all numbers below m passes at each
pub all_below_at : (m : ℕ) (f : ℕ → Bool) → all_below m f ≡ true → (r : ℕ) → r < m → f r ≡ true
all_below_at zero f e r h = absurd (omega arith)
all_below_at (suc m) f e r h =
    let both : (all_below m f && f m) ≡ true = sym (all_below_suc m f) ∙ e in
    by (ℕ_discrete m r) (and_right (all_below m f) (f m) both) (λ k. all_below_at m f (and_left (all_below m f) (f m) both) r k)
  where
    by : Dec (m ≡ r) → f m ≡ true → (r < m → f r ≡ true) → f r ≡ true
    by (yes p) here below = subst (λ (x : ℕ). f x ≡ true) p here
    by (no n) here below = below (omega arith)

-- what passes at each number below m passes at all
pub all_below_from : (m : ℕ) (f : ℕ → Bool) → ((r : ℕ) → r < m → f r ≡ true) → all_below m f ≡ true
all_below_from zero f h = all_below_zero f
all_below_from (suc m) f h = all_below_suc m f ∙ and_both (all_below_from m f (λ r l. h r (omega arith))) (h m (omega arith))

-- a test that fails at a number below m fails over the numbers below m
pub all_below_fails : (m : ℕ) (f : ℕ → Bool) (r : ℕ) → r < m → f r ≡ false → all_below m f ≡ false
all_below_fails m f r h e = not_passed (all_below m f) (λ p. no_true (sym e ∙ all_below_at m f p r h))

-- tests that agree at each number below m agree over the numbers below m
pub all_below_cong : (m : ℕ) (f g : ℕ → Bool) → ((r : ℕ) → r < m → f r ≡ g r) → all_below m f ≡ all_below m g
all_below_cong zero f g h = all_below_zero f ∙ sym (all_below_zero g)
all_below_cong (suc m) f g h = rw (all_below_suc m f, all_below_suc m g, all_below_cong m f g (λ r l. h r (omega arith)), h m (omega arith))

-- no number of an empty list is above the limit
pub all_at_most_nil : (limit : ℕ) → all_at_most limit [] ≡ true
unfolding all_at_most
all_at_most_nil limit = refl

-- a list is within the limit where its first number and the rest are
pub all_at_most_cons : (limit x : ℕ) (xs : List ℕ) → all_at_most limit (x ∷ xs) ≡ (leb x limit && all_at_most limit xs)
unfolding all_at_most
all_at_most_cons limit x xs = refl

-- from the end of a list on, no number is above the limit
pub all_at_most_end : (limit : ℕ) (xs : List ℕ) (i : ℕ) → length xs ≤ i → all_at_most limit (drop i xs) ≡ true
all_at_most_end limit xs i h = rw (drop_of_length-le xs {i = i} h, all_at_most_nil)

-- from a place on, a list is within the limit where its number there and those behind it are
pub all_at_most_drop : (limit : ℕ) (xs : List ℕ) (i : ℕ) → i < length xs
    → all_at_most limit (drop i xs) ≡ (leb (get_or xs i 0) limit && all_at_most limit (drop (suc i) xs))
all_at_most_drop limit xs i h = rw (drop-cons xs i 0, all_at_most_cons)

-- past a number within the limit, a list is within it where it was from that number on
pub all_at_most_next : (limit : ℕ) (xs : List ℕ) (i : ℕ) → i < length xs → get_or xs i 0 ≤ limit
    → all_at_most limit (drop (i + 1) xs) ≡ all_at_most limit (drop i xs)
all_at_most_next limit xs i h k = rw (add-one, all_at_most_drop limit xs i, le-leb (get_or xs i 0) limit k)

-- from a number above the limit on, a list is not within it
pub all_at_most_fails : (limit : ℕ) (xs : List ℕ) (i : ℕ) → i < length xs → limit < get_or xs i 0 → all_at_most limit (drop i xs) ≡ false
all_at_most_fails limit xs i h k = rw (all_at_most_drop limit xs i, lt-leb (get_or xs i 0) limit k)

-- a number of a list within the limit is within it
pub all_at_most_at : (limit : ℕ) (xs : List ℕ) → all_at_most limit xs ≡ true → (i : ℕ) → get_or xs i 0 ≤ limit
all_at_most_at limit [] e i = omega arith
all_at_most_at limit (x ∷ xs) e zero =
    leb-true x limit (and_left (leb x limit) (all_at_most limit xs) (sym (all_at_most_cons limit x xs) ∙ e))
all_at_most_at limit (x ∷ xs) e (suc i) =
    all_at_most_at limit xs (and_right (leb x limit) (all_at_most limit xs) (sym (all_at_most_cons limit x xs) ∙ e)) i

-- a list of which each number is within the limit is within it
pub all_at_most_from : (limit : ℕ) (xs : List ℕ) → ((i : ℕ) → i < length xs → get_or xs i 0 ≤ limit) → all_at_most limit xs ≡ true
all_at_most_from limit [] h = all_at_most_nil limit
all_at_most_from limit (x ∷ xs) h =
    all_at_most_cons limit x xs
    ∙ and_both (le-leb x limit (h 0 (omega arith))) (all_at_most_from limit xs (λ i l. h (suc i) (omega arith)))
