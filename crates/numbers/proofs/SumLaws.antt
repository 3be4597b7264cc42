-- Laws of the sums that the definitions are made of: `sum_below` over the numbers below m, `sum_z`, its like for integers, and
-- `weighted_sum`, which is linear in the levels, so that sums of weighted sums change places with it. Assumes nothing.
use mathlib.Core.Path.{◌≡◌, refl, sym, ◌∙◌, ap, ap₂}
use mathlib.Core.Logic.{◌≢◌}
use mathlib.Core.List.{List, [], ◌∷◌}
use Prim.Native.Nat.{ℕ, zero, suc, ◌+◌, ◌*◌, ◌<◌, ◌≤◌}
use native.Mathlib.Nat.{mul-le-mul, mul-zero}
use native.Mathlib.Decide.{ℕ_discrete}
use native.Mathlib.Omega.{arith}
use lib.ListN.{length, get_or, take}
use lib.IntN.{ℤ, pos, ◌+ℤ◌, ◌*ℤ◌, +ℤ_idl, +ℤ_idr, +ℤ_assoc, *ℤ_comm, *ℤ-zero, zero-*ℤ}
use lib.Signed.{◌≤ℤ◌, ≤ℤ_refl}
use Rattle.numbers.specs.Sum.{sum_below, weighted_sum}
use Rattle.numbers.proofs.Int.{up, dn, size_add, size_mul, ≤ℤ_add, ≤ℤ_eq, pos_nonneg}
use Rattle.numbers.proofs.Ring.{ring, *ℤ_assoc, *ℤ_distl, *ℤ_distr, ≤ℤ_mul}

-- ---- sums of natural numbers

-- over no numbers
pub sum_below_zero : (f : ℕ → ℕ) → sum_below 0 f ≡ 0
unfolding sum_below
sum_below_zero f = refl

-- over one number more
pub sum_below_suc : (m : ℕ) (f : ℕ → ℕ) → sum_below (suc m) f ≡ sum_below m f + f m
unfolding sum_below
sum_below_suc m f = refl

-- terms that are equal below m
pub sum_below_ext : (m : ℕ) (f g : ℕ → ℕ) → ((r : ℕ) → r < m → f r ≡ g r) → sum_below m f ≡ sum_below m g
sum_below_ext zero f g e = sum_below_zero f ∙ sym (sum_below_zero g)
sum_below_ext (suc m) f g e = rw (sum_below_suc m f, sum_below_suc m g, sum_below_ext m f g (λ r h. e r (omega arith)), e m (omega arith))

-- a term is at most the sum that it is a term of
pub sum_below_term : (m : ℕ) (f : ℕ → ℕ) (r : ℕ) → r < m → f r ≤ sum_below m f
sum_below_term zero f r h = absurd (omega arith)
sum_below_term (suc m) f r h = by (ℕ_discrete r m) (λ l. sum_below_term m f r l)
  where
    by : Dec (r ≡ m) → (r < m → f r ≤ sum_below m f) → f r ≤ sum_below (suc m) f
    by (yes e) below = omega (arith, sum_below_suc m f, ap f e)
    by (no n) below = omega (arith, sum_below_suc m f, below (omega arith))

-- a sum of which the term at r is d more
pub sum_below_more : (m : ℕ) (f g : ℕ → ℕ) (r d : ℕ) → r < m → g r ≡ f r + d → ((q : ℕ) → q ≢ r → g q ≡ f q)
    → sum_below m g ≡ sum_below m f + d
sum_below_more zero f g r d h here others = absurd (omega arith)
sum_below_more (suc m) f g r d h here others = by (ℕ_discrete m r) (λ l. sum_below_more m f g r d l here others)
  where
    by : Dec (m ≡ r) → (r < m → sum_below m g ≡ sum_below m f + d) → sum_below (suc m) g ≡ sum_below (suc m) f + d
    by (yes e) below =
        omega (
          arith,
          sum_below_suc m f,
          sum_below_suc m g,
          ap f e,
          ap g e,
          sum_below_ext m g f (λ q l. others q (λ same. omega arith)),
        )
    by (no n) below = omega (arith, sum_below_suc m f, sum_below_suc m g, below (omega arith), others m n)

-- terms that are sums
pub sum_below_add : (m : ℕ) (f g : ℕ → ℕ) → sum_below m (λ r. f r + g r) ≡ sum_below m f + sum_below m g
sum_below_add zero f g = simp sum_below_zero
sum_below_add (suc m) f g =
    omega (arith, sum_below_suc m (λ r. f r + g r), sum_below_suc m f, sum_below_suc m g, sum_below_add m f g)

-- terms with a common factor
pub sum_below_mul : (m k : ℕ) (f : ℕ → ℕ) → sum_below m (λ r. k * f r) ≡ k * sum_below m f
sum_below_mul zero k f = simp (sum_below_zero, mul-zero)
sum_below_mul (suc m) k f = rw (sum_below_suc m (λ r. k * f r), sum_below_suc m f, sum_below_mul m k f) (omega arith)

-- terms in order below m
pub sum_below_le : (m : ℕ) (f g : ℕ → ℕ) → ((r : ℕ) → r < m → f r ≤ g r) → sum_below m f ≤ sum_below m g
sum_below_le zero f g h = omega (arith, sum_below_zero f)
sum_below_le (suc m) f g h =
    omega (arith, sum_below_suc m f, sum_below_suc m g, sum_below_le m f g (λ r l. h r (omega arith)), h m (omega arith))

-- terms of at most k
pub sum_below_most : (m k : ℕ) (f : ℕ → ℕ) → ((r : ℕ) → r < m → f r ≤ k) → sum_below m f ≤ m * k
sum_below_most zero k f h = omega (arith, sum_below_zero f)
sum_below_most (suc m) k f h = omega (arith, sum_below_suc m f, sum_below_most m k f (λ r l. h r (omega arith)), h m (omega arith))

-- terms of 0
pub sum_below_none : (m : ℕ) → sum_below m (λ r. 0) ≡ 0
sum_below_none m = omega (arith, sum_below_most m 0 (λ r. 0) (λ r h. omega arith))

-- sums of sums change places
pub sum_below_exchange : (m n : ℕ) (f : ℕ → ℕ → ℕ) → sum_below m (λ r. sum_below n (f r)) ≡ sum_below n (λ p. sum_below m (λ r. f r p))
unfolding sum_below
sum_below_exchange zero n f = sym (sum_below_none n)
sum_below_exchange (suc m) n f =
    ap (λ (x : ℕ). x + sum_below n (f m)) (sum_below_exchange m n f) ∙ sym (sum_below_add n (λ p. sum_below m (λ r. f r p)) (f m))

-- ---- sums of integers

-- f 0 + f 1 + .. + f (m − 1)
unfoldable pub sum_z : ℕ → (ℕ → ℤ) → ℤ
sum_z zero f = pos 0
sum_z (suc m) f = sum_z m f +ℤ f m

-- terms that are equal below m
pub sum_z_ext : (m : ℕ) (f g : ℕ → ℤ) → ((r : ℕ) → r < m → f r ≡ g r) → sum_z m f ≡ sum_z m g
unfolding sum_z
sum_z_ext zero f g e = refl
sum_z_ext (suc m) f g e = ap₂ ◌+ℤ◌ (sum_z_ext m f g (λ r h. e r (omega arith))) (e m (omega arith))

-- terms in order below m
pub sum_z_le : (m : ℕ) (f g : ℕ → ℤ) → ((r : ℕ) → r < m → f r ≤ℤ g r) → sum_z m f ≤ℤ sum_z m g
unfolding sum_z
sum_z_le zero f g h = ≤ℤ_refl (pos 0)
sum_z_le (suc m) f g h = ≤ℤ_add (sum_z_le m f g (λ r l. h r (omega arith))) (h m (omega arith))

regrouped : (a b c d : ℤ) → a +ℤ b +ℤ (c +ℤ d) ≡ a +ℤ c +ℤ (b +ℤ d)
regrouped a b c d = simp ring

-- terms that are sums
pub sum_z_add : (m : ℕ) (f g : ℕ → ℤ) → sum_z m (λ r. f r +ℤ g r) ≡ sum_z m f +ℤ sum_z m g
unfolding sum_z
sum_z_add zero f g = refl
sum_z_add (suc m) f g = ap (λ (x : ℤ). x +ℤ (f m +ℤ g m)) (sum_z_add m f g) ∙ regrouped (sum_z m f) (sum_z m g) (f m) (g m)

-- terms with a common factor
pub sum_z_mul : (m : ℕ) (k : ℤ) (f : ℕ → ℤ) → sum_z m (λ r. k *ℤ f r) ≡ k *ℤ sum_z m f
unfolding sum_z
sum_z_mul zero k f = sym (*ℤ-zero k)
sum_z_mul (suc m) k f = ap (λ (x : ℤ). x +ℤ k *ℤ f m) (sum_z_mul m k f) ∙ sym (*ℤ_distl k (sum_z m f) (f m))

-- terms that are natural numbers
pub sum_z_pos : (m : ℕ) (f : ℕ → ℕ) → sum_z m (λ r. pos (f r)) ≡ pos (sum_below m f)
unfolding sum_z sum_below
sum_z_pos zero f = refl
sum_z_pos (suc m) f = ap (λ (x : ℤ). x +ℤ pos (f m)) (sum_z_pos m f)

-- the same term each time, times a count
pub sum_z_counted : (m : ℕ) (c : ℕ → ℕ) (k : ℤ) → sum_z m (λ r. pos (c r) *ℤ k) ≡ pos (sum_below m c) *ℤ k
sum_z_counted m c k =
    sum_z_ext m (λ r. pos (c r) *ℤ k) (λ r. k *ℤ pos (c r)) (λ r h. *ℤ_comm (pos (c r)) k)
    ∙ sum_z_mul m k (λ r. pos (c r))
    ∙ ap (λ (x : ℤ). k *ℤ x) (sum_z_pos m c)
    ∙ *ℤ_comm k (pos (sum_below m c))

counted_le : (c : ℕ) (a b : ℤ) → (0 < c → a ≤ℤ b) → (pos c *ℤ a) ≤ℤ (pos c *ℤ b)
counted_le zero a b h = ≤ℤ_eq (≤ℤ_refl (pos 0)) (sym (zero-*ℤ a)) (sym (zero-*ℤ b))
counted_le (suc c) a b h = ≤ℤ_mul (pos (suc c)) (pos_nonneg (suc c)) (h (omega arith))

-- terms times counts, in order where the count is above 0
pub sum_z_counted_le : (m : ℕ) (c : ℕ → ℕ) (f g : ℕ → ℤ) → ((r : ℕ) → r < m → 0 < c r → f r ≤ℤ g r)
    → sum_z m (λ r. pos (c r) *ℤ f r) ≤ℤ sum_z m (λ r. pos (c r) *ℤ g r)
sum_z_counted_le m c f g h = sum_z_le m (λ r. pos (c r) *ℤ f r) (λ r. pos (c r) *ℤ g r) (λ r l. counted_le (c r) (f r) (g r) (h r l))

-- ---- weighted sums

-- no weights
pub weighted_sum_nil : (l : ℕ → ℕ) → weighted_sum [] l ≡ pos 0
unfolding weighted_sum
weighted_sum_nil l = refl

-- a first weight, and those behind it
pub weighted_sum_cons : (w : ℤ) (ws : List ℤ) (l : ℕ → ℕ) → weighted_sum (w ∷ ws) l ≡ pos (l 0) *ℤ w +ℤ weighted_sum ws (λ place. l (suc place))
unfolding weighted_sum
weighted_sum_cons w ws l = refl

-- a last weight behind those before it
pub weighted_sum_suc : (place : ℕ) (ws : List ℤ) (l : ℕ → ℕ) → place < length ws
    → weighted_sum (take (suc place) ws) l ≡ weighted_sum (take place ws) l +ℤ pos (l place) *ℤ get_or ws place (pos 0)
weighted_sum_suc place [] l h = absurd (omega arith)
weighted_sum_suc zero (w ∷ ws) l h = simp (weighted_sum_cons, weighted_sum_nil, +ℤ_idl, +ℤ_idr)
weighted_sum_suc (suc place) (w ∷ ws) l h =
    let later = weighted_sum_suc place ws (λ p. l (suc p)) (omega arith) in
    simp (weighted_sum_cons, later, +ℤ_assoc)

-- weights see the levels of their places alone
pub weighted_sum_ext : (ws : List ℤ) (l k : ℕ → ℕ) → ((place : ℕ) → place < length ws → l place ≡ k place) → weighted_sum ws l ≡ weighted_sum ws k
weighted_sum_ext [] l k e = rw (weighted_sum_nil l, weighted_sum_nil k)
weighted_sum_ext (w ∷ ws) l k e =
    rw (weighted_sum_cons w ws l, weighted_sum_cons w ws k, e 0 (omega arith), weighted_sum_ext ws (λ p. l (suc p)) (λ p. k (suc p)) (λ p h. e (suc p) (omega arith)))

-- the size of a sum, where levels are at most `top` and the sizes of the weights at most `most`
pub weighted_sum_size : (ws : List ℤ) (l : ℕ → ℕ) (top most : ℕ) → ((place : ℕ) → place < length ws → l place ≤ top)
    → ((place : ℕ) → place < length ws → up (get_or ws place (pos 0)) + dn (get_or ws place (pos 0)) ≤ most)
    → up (weighted_sum ws l) + dn (weighted_sum ws l) ≤ length ws * (top * most)
weighted_sum_size [] l top most h k = rw (weighted_sum_nil l) (omega arith)
weighted_sum_size (w ∷ ws) l top most h k =
    let rest = weighted_sum_size ws (λ p. l (suc p)) top most (λ p q. h (suc p) (omega arith)) (λ p q. k (suc p) (omega arith)) in
    let here : (l 0 + 0) * (up w + dn w) ≤ top * most = mul-le-mul (omega (arith, h 0 (omega arith))) (k 0 (omega arith)) in
    rw (weighted_sum_cons w ws l) (omega (arith, size_add (pos (l 0) *ℤ w) (weighted_sum ws (λ p. l (suc p))), size_mul (pos (l 0)) w))

-- ---- weighted sums are linear in the levels

-- levels that are all 0
pub weighted_sum_zero : (ws : List ℤ) → weighted_sum ws (λ place. 0) ≡ pos 0
weighted_sum_zero [] = weighted_sum_nil (λ place. 0)
weighted_sum_zero (w ∷ ws) = rw (weighted_sum_cons w ws (λ place. 0), weighted_sum_zero ws, zero-*ℤ)

add_terms : (x y : ℕ) (w s t : ℤ) → pos (x + y) *ℤ w +ℤ (s +ℤ t) ≡ pos x *ℤ w +ℤ s +ℤ (pos y *ℤ w +ℤ t)
add_terms x y w s t = ap (λ (z : ℤ). z +ℤ (s +ℤ t)) (*ℤ_distr (pos x) (pos y) w) ∙ regrouped (pos x *ℤ w) (pos y *ℤ w) s t

-- levels that are sums
pub weighted_sum_add : (ws : List ℤ) (l k : ℕ → ℕ) → weighted_sum ws (λ place. l place + k place) ≡ weighted_sum ws l +ℤ weighted_sum ws k
weighted_sum_add [] l k = simp weighted_sum_nil
weighted_sum_add (w ∷ ws) l k =
    weighted_sum_cons w ws (λ p. l p + k p)
    ∙ ap (λ (x : ℤ). pos (l 0 + k 0) *ℤ w +ℤ x) (weighted_sum_add ws (λ p. l (suc p)) (λ p. k (suc p)))
    ∙ add_terms (l 0) (k 0) w (weighted_sum ws (λ p. l (suc p))) (weighted_sum ws (λ p. k (suc p)))
    ∙ sym (ap₂ ◌+ℤ◌ (weighted_sum_cons w ws l) (weighted_sum_cons w ws k))

mul_terms : (c x : ℕ) (w s : ℤ) → pos (c * x) *ℤ w +ℤ pos c *ℤ s ≡ pos c *ℤ (pos x *ℤ w +ℤ s)
mul_terms c x w s = ap (λ (z : ℤ). z +ℤ pos c *ℤ s) (*ℤ_assoc (pos c) (pos x) w) ∙ sym (*ℤ_distl (pos c) (pos x *ℤ w) s)

-- levels with a common factor
pub weighted_sum_mul : (c : ℕ) (ws : List ℤ) (l : ℕ → ℕ) → weighted_sum ws (λ place. c * l place) ≡ pos c *ℤ weighted_sum ws l
weighted_sum_mul c [] l = simp (weighted_sum_nil, *ℤ-zero)
weighted_sum_mul c (w ∷ ws) l =
    weighted_sum_cons w ws (λ p. c * l p)
    ∙ ap (λ (x : ℤ). pos (c * l 0) *ℤ w +ℤ x) (weighted_sum_mul c ws (λ p. l (suc p)))
    ∙ mul_terms c (l 0) w (weighted_sum ws (λ p. l (suc p)))
    ∙ ap (λ (x : ℤ). pos c *ℤ x) (sym (weighted_sum_cons w ws l))

-- the sum over r of c r times the weighted sum at the levels l r: the two sums change places
pub weighted_sum_exchange : (m : ℕ) (c : ℕ → ℕ) (l : ℕ → ℕ → ℕ) (ws : List ℤ)
    → sum_z m (λ r. pos (c r) *ℤ weighted_sum ws (l r)) ≡ weighted_sum ws (λ place. sum_below m (λ r. c r * l r place))
unfolding sum_z sum_below
weighted_sum_exchange zero c l ws = sym (weighted_sum_zero ws)
weighted_sum_exchange (suc m) c l ws =
    ap₂ ◌+ℤ◌ (weighted_sum_exchange m c l ws) (sym (weighted_sum_mul (c m) ws (l m)))
    ∙ sym (weighted_sum_add ws (λ p. sum_below m (λ r. c r * l r p)) (λ p. c m * l m p))
