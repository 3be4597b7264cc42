-- The perceptron convergence theorem, over what varies between machines: the number m of components, the rows that
-- may be corrected by, and the correction of each. Vectors are functions of the component. Corrections whose squares add up to at most B,
-- each with a product of at most 0 with the vector it meets, keep the vector's squares at most B-as-K after K of them; a vector u that has
-- a product of at least 1 with each of them has one of at least K with the vector. 0 ≤ |v − B·u|² joins the two: K ≤ B·|u|².
-- Assumes nothing.
use mathlib.Core.Path.{◌≡◌, sym, ◌∙◌, ap, ap₂}
use Prim.Native.Nat.{ℕ, zero, suc, ◌*◌, ◌<◌}
use lib.IntN.{ℤ, pos, ◌+ℤ◌, ◌*ℤ◌, *ℤ_comm, zero-*ℤ, +ℤ_assoc, +ℤ_idl, +ℤ_idr}
use lib.Signed.{◌≤ℤ◌}
use Rattle.numbers.proofs.Int.{integers, parts_add, ≤ℤ_eq, pos_nonneg}
use Rattle.numbers.proofs.Ring.{ring, amgm, *ℤ_assoc, *ℤ_distr, ≤ℤ_mul, ≤ℤ_mul_cancel}
use Rattle.numbers.proofs.SumLaws.{sum_z, sum_z_ext, sum_z_add, sum_z_mul, sum_z_le}

-- the product of two vectors of m components
unfoldable pub dot : ℕ → (ℕ → ℤ) → (ℕ → ℤ) → ℤ
dot m v u = sum_z m (λ i. v i *ℤ u i)

-- the first component, and those behind it
pub dot_front : (m : ℕ) (v u : ℕ → ℤ) → dot (suc m) v u ≡ v 0 *ℤ u 0 +ℤ dot m (λ i. v (suc i)) (λ i. u (suc i))
unfolding dot sum_z
dot_front zero v u = +ℤ_idl (v 0 *ℤ u 0) ∙ sym (+ℤ_idr (v 0 *ℤ u 0))
dot_front (suc m) v u =
    ap (λ (x : ℤ). x +ℤ v (suc m) *ℤ u (suc m)) (dot_front m v u)
    ∙ +ℤ_assoc (v 0 *ℤ u 0) (dot m (λ i. v (suc i)) (λ i. u (suc i))) (v (suc m) *ℤ u (suc m))

-- v' is v with c added, in the components below m
abbrev pub Added : ℕ → (c v v' : ℕ → ℤ) → Type 0
Added m c v v' = (i : ℕ) → i < m → v' i ≡ v i +ℤ c i

-- 2qvu is at most v² + q²u²
weighted_term : (q v u : ℤ) → (pos 2 *ℤ q *ℤ (v *ℤ u)) ≤ℤ (v *ℤ v +ℤ q *ℤ q *ℤ (u *ℤ u))
weighted_term q v u = ≤ℤ_eq (amgm v (q *ℤ u)) (simp ring) (simp ring)

-- the squares of v + c, from the products, where c·v is at most 0 and c·c at most B
square_grown : (vv cv cc : ℤ) (B : ℕ) → cv ≤ℤ pos 0 → cc ≤ℤ pos B → (vv +ℤ cv +ℤ (cv +ℤ cc)) ≤ℤ (vv +ℤ pos B)
square_grown vv cv cc B h k = omega (integers, parts_add (vv +ℤ cv) (cv +ℤ cc), parts_add vv cv, parts_add cv cc, parts_add vv (pos B))

-- 2tx ≤ y + t²z, with tk ≤ tx and y ≤ tk, leaves tk ≤ t²z
joined : (t k x y z : ℤ) → (pos 2 *ℤ t *ℤ x) ≤ℤ (y +ℤ t *ℤ t *ℤ z) → (t *ℤ k) ≤ℤ (t *ℤ x) → y ≤ℤ (t *ℤ k) → (t *ℤ k) ≤ℤ (t *ℤ (t *ℤ z))
joined t k x y z h g f =
    let twice : pos 2 *ℤ t *ℤ x ≡ t *ℤ x +ℤ t *ℤ x = simp ring in
    let apart : t *ℤ t *ℤ z ≡ t *ℤ (t *ℤ z) = simp ring in
    omega (integers, parts_add (t *ℤ x) (t *ℤ x), parts_add y (t *ℤ t *ℤ z))

module _ (m : ℕ) where
  -- a product is the same either way round
  pub dot_comm : (v u : ℕ → ℤ) → dot m v u ≡ dot m u v
  unfolding dot
  dot_comm v u = sum_z_ext m (λ i. v i *ℤ u i) (λ i. u i *ℤ v i) (λ i h. *ℤ_comm (v i) (u i))

  -- the vector 0 has the product 0
  pub dot_zero : (v u : ℕ → ℤ) → ((i : ℕ) → i < m → v i ≡ pos 0) → dot m v u ≡ pos 0
  unfolding dot
  dot_zero v u e =
      sum_z_ext m (λ i. v i *ℤ u i) (λ i. pos 0 *ℤ u i) (λ i h. ap (λ (x : ℤ). x *ℤ u i) (e i h)) ∙ sum_z_mul m (pos 0) u ∙ zero-*ℤ (sum_z m u)

  -- a factor of each component is one of the product
  pub dot_mul : (z : ℤ) (v u : ℕ → ℤ) → dot m (λ i. z *ℤ v i) u ≡ z *ℤ dot m v u
  unfolding dot
  dot_mul z v u =
      sum_z_ext m (λ i. z *ℤ v i *ℤ u i) (λ i. z *ℤ (v i *ℤ u i)) (λ i h. *ℤ_assoc z (v i) (u i)) ∙ sum_z_mul m z (λ i. v i *ℤ u i)

  -- the product of a corrected vector
  pub dot_added : (c v v' u : ℕ → ℤ) → Added m c v v' → dot m v' u ≡ dot m v u +ℤ dot m c u
  unfolding dot
  dot_added c v v' u e =
      sum_z_ext m (λ i. v' i *ℤ u i) (λ i. v i *ℤ u i +ℤ c i *ℤ u i) (λ i h. ap (λ (x : ℤ). x *ℤ u i) (e i h) ∙ *ℤ_distr (v i) (c i) (u i))
      ∙ sum_z_add m (λ i. v i *ℤ u i) (λ i. c i *ℤ u i)

  -- the squares of a corrected vector
  pub squares_added : (c v v' : ℕ → ℤ) → Added m c v v' → dot m v' v' ≡ dot m v v +ℤ dot m c v +ℤ (dot m c v +ℤ dot m c c)
  squares_added c v v' e =
      dot_added c v v' v' e
      ∙ ap₂ ◌+ℤ◌ (dot_comm v v' ∙ dot_added c v v' v e) (dot_comm c v' ∙ dot_added c v v' c e ∙ ap (λ (x : ℤ). x +ℤ dot m c c) (dot_comm v c))

  -- a correction with squares of at most B that meets the vector at a product of at most 0 adds at most B to its squares
  pub squares_grow : (c v v' : ℕ → ℤ) (B : ℕ) → Added m c v v' → dot m c v ≤ℤ pos 0 → dot m c c ≤ℤ pos B → dot m v' v' ≤ℤ (dot m v v +ℤ pos B)
  squares_grow c v v' B e h k = rw (squares_added c v v' e) (square_grown (dot m v v) (dot m c v) (dot m c c) B h k)

  -- a correction that has a product of at least 1 with u adds at least 1 to the vector's product with u
  pub product_grows : (c v v' u : ℕ → ℤ) → Added m c v v' → pos 1 ≤ℤ dot m c u → (dot m v u +ℤ pos 1) ≤ℤ dot m v' u
  product_grows c v v' u e h =
      rw (dot_added c v v' u e) (omega (integers, parts_add (dot m v u) (dot m c u), parts_add (dot m v u) (pos 1)))

  -- 2q(v·u) is at most v·v + q²(u·u)
  pub weighted : (q : ℤ) (v u : ℕ → ℤ) → (pos 2 *ℤ q *ℤ dot m v u) ≤ℤ (dot m v v +ℤ q *ℤ q *ℤ dot m u u)
  unfolding dot
  weighted q v u =
      ≤ℤ_eq (sum_z_le m (λ i. pos 2 *ℤ q *ℤ (v i *ℤ u i)) (λ i. v i *ℤ v i +ℤ q *ℤ q *ℤ (u i *ℤ u i)) (λ i h. weighted_term q (v i) (u i)))
      (sum_z_mul m (pos 2 *ℤ q) (λ i. v i *ℤ u i))
      (sum_z_add m (λ i. v i *ℤ v i) (λ i. q *ℤ q *ℤ (u i *ℤ u i)) ∙ ap (λ (x : ℤ). sum_z m (λ i. v i *ℤ v i) +ℤ x) (sum_z_mul m (q *ℤ q) (λ i. u i *ℤ u i)))

  -- squares of at most B-as-K and a product with u of at least K bound K
  pub corrections_le : (b k : ℕ) (v u : ℕ → ℤ) → dot m v v ≤ℤ pos (suc b * k) → pos k ≤ℤ dot m v u → pos k ≤ℤ (pos (suc b) *ℤ dot m u u)
  corrections_le b k v u h g =
      let t = pos (suc b) in
      ≤ℤ_mul_cancel b (joined t (pos k) (dot m v u) (dot m v v) (dot m u u) (weighted t v u) (≤ℤ_mul t (pos_nonneg (suc b)) g) h)

-- ---- corrections from 0 on

module _ (m : ℕ) (Row : ℕ → Type 0) (correction : ℕ → ℕ → ℤ) where
  -- v comes of k corrections of the vector 0, each by a row of those given whose correction meets the vector at a product of at most 0
  pub data Walk : ℕ → (ℕ → ℤ) → Type 0 where
    start : {v : ℕ → ℤ} → ((i : ℕ) → i < m → v i ≡ pos 0) → Walk 0 v
    more : {k : ℕ} {v v' : ℕ → ℤ} (r : ℕ) → Walk k v → Row r → dot m (correction r) v ≤ℤ pos 0 → Added m (correction r) v v' → Walk (suc k) v'

  -- where corrections have squares of at most B, the vector has at most B-as-K
  pub walk_squares : (B : ℕ) → ((r : ℕ) → Row r → dot m (correction r) (correction r) ≤ℤ pos B) → {k : ℕ} {v : ℕ → ℤ} → Walk k v → dot m v v ≤ℤ pos (B * k)
  walk_squares B short (start {v} e) = rw (dot_zero m v v e) (pos_nonneg (B * 0))
  walk_squares B short (more {v} {v'} r w x h e) =
      omega (integers, walk_squares B short w, squares_grow m (correction r) v v' B e h (short r x), parts_add (dot m v v) (pos B))

  -- where corrections have a product of at least 1 with u, the vector has one of at least K
  pub walk_product : (u : ℕ → ℤ) → ((r : ℕ) → Row r → pos 1 ≤ℤ dot m (correction r) u) → {k : ℕ} {v : ℕ → ℤ} → Walk k v → pos k ≤ℤ dot m v u
  walk_product u along (start {v} e) = rw (dot_zero m v u e) (pos_nonneg 0)
  walk_product u along (more {v} {v'} r w x h e) =
      omega (integers, walk_product u along w, product_grows m (correction r) v v' u e (along r x), parts_add (dot m v u) (pos 1))

  -- the perceptron convergence theorem (Novikoff, 1962): with both, K is at most B times the squares of u
  pub walk_bound : (b : ℕ) (u : ℕ → ℤ)
      → ((r : ℕ) → Row r → dot m (correction r) (correction r) ≤ℤ pos (suc b))
      → ((r : ℕ) → Row r → pos 1 ≤ℤ dot m (correction r) u)
      → {k : ℕ} {v : ℕ → ℤ}
      → Walk k v
      → pos k ≤ℤ (pos (suc b) *ℤ dot m u u)
  walk_bound b u short along {k} {v} w = corrections_le m b k v u (walk_squares (suc b) short w) (walk_product u along w)
