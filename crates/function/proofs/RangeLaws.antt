-- The range of a vector: what the test `inRange` says of the threshold and of each place, both directions, and how a correction widens it.
-- Assumes nothing.
use mathlib.Core.Path.{◌≡◌, refl}
use mathlib.Core.Logic.{◌↔◌}
use mathlib.Core.Bool.{Bool, true, false, cond}
use mathlib.Core.List.{List}
use Prim.Native.Nat.{ℕ, ◌+◌, ◌≤◌, ◌<◌}
use native.Mathlib.Omega.{arith}
use lib.Dec.{ltb}
use lib.ListN.{length, get_or, get_or-replicate}
use lib.IntN.{ℤ, pos, neg_ℤ, nat_abs, ◌+ℤ◌, ◌-ℤ◌, ◌*ℤ◌}
use lib.Signed.{le_z}
use borrow.Author.Tests.{le-ltb, ltb-false}
use Rattle.numbers.proofs.Int.{integers, up, dn, nat_abs_parts, parts_neg, one_part, size_add, size_mul}
use Rattle.numbers.proofs.TestLaws.{and_left, and_right, and_both, all_below_at, all_below_from}
use Rattle.function.specs.Gate.{within, place_limit, in_range}
use Rattle.types.specs.declared.vector.Vector.{Vector}
use Rattle.function.specs.Vector.{sign, corrected_by, zero_vector}
use Rattle.function.proofs.VectorLaws.{corrected_weights, corrected_threshold, get_d_add_levels}

-- the threshold lies within ±limit, and so do the n first of eight places; the others hold 0
pub record InRange (limit n : ℕ) (ws : List ℤ) (th : ℤ) : Type 0 where
  pub threshold : nat_abs th ≤ limit
  pub places : (place : ℕ) → place < 8 → nat_abs (get_or ws place (pos 0)) ≤ place_limit limit n place

-- an integer lies within ±limit exactly if its size is at most the limit
pub within_correct : (limit : ℕ) (z : ℤ) → within limit z ≡ true ↔ nat_abs z ≤ limit
within_correct limit z = (
  λ e. (
      let low = and_left (le_z (neg_ℤ (pos limit)) z) (le_z z (pos limit)) e in
      let high = and_right (le_z (neg_ℤ (pos limit)) z) (le_z z (pos limit)) e in
      omega (integers, nat_abs_parts z, parts_neg (pos limit), one_part z)),
  λ h. (
      let low : le_z (neg_ℤ (pos limit)) z ≡ true = omega (integers, nat_abs_parts z, parts_neg (pos limit)) in
      let high : le_z z (pos limit) ≡ true = omega (integers, nat_abs_parts z) in
      and_both low high),
)

-- the test of a range says so
pub in_range_correct : (limit n : ℕ) (ws : List ℤ) (th : ℤ) → in_range limit n ws th ≡ true ↔ InRange limit n ws th
unfolding in_range
in_range_correct limit n ws th =
    let ok : ℕ → Bool = λ place. within (place_limit limit n place) (get_or ws place (pos 0)) in (
      λ e. record {
        threshold = (within_correct limit th).0 (and_left (within limit th) _ e);
        places = λ place h.
            (within_correct (place_limit limit n place) (get_or ws place (pos 0))).0 (all_below_at 8 ok (and_right (within limit th) _ e) place h);
      },
      λ f. and_both ((within_correct limit th).1 f.threshold)
          (all_below_from 8 ok (λ place h. (within_correct (place_limit limit n place) (get_or ws place (pos 0))).1 (f.places place h))),
    )

-- what a place may hold is at most the limit, is 0 past n, and grows with the limit
pub place_limit_le : (limit n place : ℕ) → place_limit limit n place ≤ limit
place_limit_le limit n place = by (ltb place n)
  where
    by : (b : Bool) → cond b limit 0 ≤ limit
    by true = omega arith
    by false = omega arith

pub place_limit_past : (limit n place : ℕ) → n ≤ place → place_limit limit n place ≡ 0
place_limit_past limit n place h = rw (le-ltb place n h)

pub place_limit_more : (limit more n place d : ℕ) → limit + d ≤ more → (n ≤ place → d ≡ 0)
    → place_limit limit n place + d ≤ place_limit more n place
place_limit_more limit more n place d h past = by (ltb place n) refl
  where
    by : (b : Bool) → ltb place n ≡ b → cond b limit 0 + d ≤ cond b more 0
    by true e = h
    by false e = omega (arith, past (ltb-false place n e))

module _ {limit n : ℕ} {ws : List ℤ} {th : ℤ} where
  -- each place lies within ±limit
  pub in_range_at : InRange limit n ws th → (place : ℕ) → place < 8 → nat_abs (get_or ws place (pos 0)) ≤ limit
  in_range_at f place h = omega (arith, f.places place h, place_limit_le limit n place)

  -- the places past n hold 0
  pub in_range_past : InRange limit n ws th → (place : ℕ) → n ≤ place → place < 8 → get_or ws place (pos 0) ≡ pos 0
  in_range_past f place k h =
      let z = get_or ws place (pos 0) in
      omega (integers, f.places place h, place_limit_past limit n place k, nat_abs_parts z)

  -- a range lies within a wider one
  pub in_range_wider : (more : ℕ) → limit ≤ more → InRange limit n ws th → InRange more n ws th
  in_range_wider more h f = record {
    threshold = omega (arith, f.threshold);
    places = λ place l. omega (arith, f.places place l, place_limit_more limit more n place 0 (omega arith) (λ past. refl));
  }

-- the zero vector lies within every range
pub zero_in_range : (limit n : ℕ) → InRange limit n zero_vector.a zero_vector.b
zero_in_range limit n = record { threshold = omega arith; places = λ place h. rw (get_or-replicate 8 place (pos 0) (pos 0) h) (omega arith) }

-- ---- a correction

-- an integer that is added levels, or loses a sign, grows by as much at most
sign_size : (y : Bool) → up (sign y) + dn (sign y) ≡ 1
sign_size true = refl
sign_size false = refl

signed_size : (z : ℤ) (y : Bool) (x : ℕ) → nat_abs (z +ℤ pos x *ℤ sign y) ≤ nat_abs z + x
signed_size z y x =
    let d = pos x *ℤ sign y in
    omega (arith, nat_abs_parts z, nat_abs_parts (z +ℤ d), size_add z d, rw (sign_size y) at (size_mul (pos x) (sign y)))

threshold_size : (z : ℤ) (y : Bool) → nat_abs (z -ℤ sign y) ≤ nat_abs z + 1
threshold_size z y = omega (arith, nat_abs_parts z, nat_abs_parts (z -ℤ sign y), size_add z (neg_ℤ (sign y)), parts_neg (sign y), sign_size y)

-- a correction by levels of at most `top`, with n places, widens the range by `top`
pub corrected_in_range : (limit top n : ℕ) (y : Bool) (l : ℕ → ℕ) (v : Vector) → 1 ≤ top → ((place : ℕ) → l place ≤ top)
    → ((place : ℕ) → n ≤ place → l place ≡ 0) → length v.a ≡ 8 → InRange limit n v.a v.b
    → InRange (limit + top) n (corrected_by y l v).a (corrected_by y l v).b
corrected_in_range limit top n y l v some low past eight f = record {
  threshold = rw (corrected_threshold y l v) (omega (arith, threshold_size v.b y, f.threshold));
  places = λ place h.
      rw (corrected_weights y l v, get_d_add_levels (sign y) l v.a place (omega arith))
      (omega (
        arith,
        signed_size (get_or v.a place (pos 0)) y (l place),
        f.places place h,
        place_limit_more limit (limit + top) n place (l place) (omega (arith, low place)) (past place),
      ));
}
