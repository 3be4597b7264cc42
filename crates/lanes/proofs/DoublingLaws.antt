-- Sums that are made by doubling: an input makes, of the sums of the rows without it, those of their partners with it. The loop that does
-- so, one store a pass, the sums after so many inputs, and how large they are. Assumes nothing.
use mathlib.Core.Path.{◌≡◌, refl, sym, ◌∙◌, ap}
use mathlib.Core.List.{List}
use Prim.Native.Nat.{ℕ, suc, ◌+◌, ◌*◌, ◌-◌, ◌^◌, ◌≤◌, ◌<◌, min}
use native.Mathlib.Decide.{dec_le}
use native.Mathlib.Nat.{zero-add}
use native.Mathlib.Omega.{arith}
use lib.Pow.{pow_mono}
use lib.ListN.{length, get_or, set, length-set}
use lib.Seq.{get_or-set_same, get_or-set_other}
use lib.IntN.{ℤ, pos, nat_abs, ◌+ℤ◌}
use Rattle.numbers.specs.Sum.{weighted_sum}
use Rattle.numbers.proofs.TabulateLaws.{tabulate_get_d}
use Rattle.function.specs.Function.{level}
use Rattle.function.specs.Gate.{distance}
use Rattle.table.proofs.TableLaws.{level_past}
use Rattle.types.specs.declared.vector.Vector.{Vector}
use Rattle.scan.proofs.DistanceLaws.{partner_distance}
use Rattle.lanes.specs.Sums.{place_sum, vector_sums, magnitude, Doubled}
use Rattle.lanes.proofs.SumsLaws.{place_low, place_high, sums_low, sums_high, row_zero, high_partner, sums_narrow}

-- ---- the loop

module _ (from half : ℕ) (weight : ℤ) (old : List ℤ) where
  -- no sum is doubled before the first round
  pub doubled_none : Doubled from half 0 weight old old
  doubled_none = record { size = refl; more = λ at l. absurd (omega arith); before = λ q l. refl; behind = λ q l. refl }

  -- a store of a sum with the weight is one round more
  pub doubled_more : {new : List ℤ} (count : ℕ) (x : ℤ) → from + half + count < length new → x ≡ get_or old (from + count) (pos 0) +ℤ weight
      → Doubled from half count weight old new
      → Doubled from half (count + 1) weight old (set new (from + half + count) x)
  doubled_more {new} count x long e d = record {
    size = length-set new (from + half + count) x ∙ d.size;
    more = λ at l. store at l (dec_le count at);
    before = λ q l. get_or-set_other new (from + half + count) q x (pos 0) (λ same. omega arith) ∙ d.before q l;
    behind = λ q l. get_or-set_other new (from + half + count) q x (pos 0) (λ same. omega arith) ∙ d.behind q (omega arith);
  }
    where
      store : (at : ℕ) → at < count + 1 → Dec (count ≤ at)
          → get_or (set new (from + half + count) x) (from + half + at) (pos 0) ≡ get_or old (from + at) (pos 0) +ℤ weight
      store at l (yes high) =
          let same : count ≡ at = omega arith in rw (← same) (get_or-set_same new (from + half + count) x (pos 0) long ∙ e)
      store at l (no low) =
          get_or-set_other new (from + half + count) (from + half + at) x (pos 0) (λ same. low (omega arith))
          ∙ d.more at (omega (arith, low))

-- ---- the sums after so many inputs

-- a list has the distances of the rows of the low inputs among them, and the sums of the rows of the higher ones
pub record SumsTo (ws : List ℤ) (th : ℤ) (place : ℕ) (sums : List ℤ) : Type 0 where
  pub size : length sums ≡ 40
  pub low : (q : ℕ) → q < 2 ^ min place 5 → get_or sums q (pos 0) ≡ distance ws th (level 2 q)
  pub high : (h : ℕ) → h < 2 ^ (place - 5) → get_or sums (32 + h) (pos 0) ≡ weighted_sum ws (level 2 (32 * h))

-- a sum of twice as many: one that was there, or that of a partner
twice : (f : ℕ → ℤ) (from half : ℕ) (weight : ℤ) (old new : List ℤ) → Doubled from half half weight old new
    → ((q : ℕ) → q < half → get_or old (from + q) (pos 0) ≡ f q)
    → ((q : ℕ) → q < half → f (q + half) ≡ f q +ℤ weight)
    → (q : ℕ)
    → q < half + half
    → get_or new (from + q) (pos 0) ≡ f q
twice f from half weight old new d first partner q l = by (dec_le half q)
  where
    by : Dec (half ≤ q) → get_or new (from + q) (pos 0) ≡ f q
    by (yes up) =
        let r = q - half in
        let below : r < half = omega arith in
        let place : from + q ≡ from + half + r = omega arith in
        let row : r + half ≡ q = omega arith in
        ap (λ (i : ℕ). get_or new i (pos 0)) place
        ∙ d.more r below
        ∙ ap (λ (z : ℤ). z +ℤ weight) (first r below)
        ∙ sym (partner r below)
        ∙ ap f row
    by (no low) = d.before (from + q) (omega (arith, low)) ∙ first q (omega (arith, low))

-- powers of two whose exponents are equal
power : {m n : ℕ} → m ≡ n → 2 ^ m ≡ 2 ^ n
power e = ap (λ (x : ℕ). 2 ^ x) e

module _ (ws : List ℤ) (th : ℤ) (old new : List ℤ) where
  -- a low input doubles the distances
  pub sums_to_low : (place : ℕ) → place < 5 → Doubled 0 (2 ^ place) (2 ^ place) (get_or ws place (pos 0)) old new → SumsTo ws th place old
      → SumsTo ws th (place + 1) new
  sums_to_low place l d s =
      let before : 2 ^ min place 5 ≡ 2 ^ place = power (omega arith) in
      let after : 2 ^ min (place + 1) 5 ≡ 2 ^ suc place = power (omega arith) in
      let none : 2 ^ (place - 5) ≡ 2 ^ (place + 1 - 5) = power (omega arith) in
      let half : 2 ^ place ≤ 16 = pow_mono {j = 4} (omega arith) in
      record {
        size = d.size ∙ s.size;
        low = λ q h.
            ap (λ (i : ℕ). get_or new i (pos 0)) (sym (zero-add q))
            ∙ twice (λ r. distance ws th (level 2 r)) 0 (2 ^ place) (get_or ws place (pos 0)) old new d
            (λ r k. ap (λ (i : ℕ). get_or old i (pos 0)) (zero-add r) ∙ s.low r (omega arith))
            (λ r k. partner_distance ws th place r (level_past {n = place} r place k (omega arith)))
            q (omega arith);
        high = λ h k. d.behind (32 + h) (omega arith) ∙ s.high h (omega arith);
      }

  -- a higher input doubles the other sums
  pub sums_to_high : (place : ℕ) → 5 ≤ place → Doubled 32 (2 ^ (place - 5)) (2 ^ (place - 5)) (get_or ws place (pos 0)) old new
      → SumsTo ws th place old
      → SumsTo ws th (place + 1) new
  sums_to_high place l d s =
      let all : 2 ^ min place 5 ≡ 32 = power {n = 5} (omega arith) in
      let still : 2 ^ min (place + 1) 5 ≡ 32 = power {n = 5} (omega arith) in
      let after : 2 ^ (place + 1 - 5) ≡ 2 ^ suc (place - 5) = power (omega arith) in
      record {
        size = d.size ∙ s.size;
        low = λ q h. d.before q (omega arith) ∙ s.low q (omega arith);
        high = λ h k.
            twice (λ r. weighted_sum ws (level 2 (32 * r))) 32 (2 ^ (place - 5)) (get_or ws place (pos 0)) old new d
            s.high
            (λ r m. high_partner ws place r l m)
            h (omega arith);
      }

-- before the first input there is row 0 alone
pub sums_to_none : (ws : List ℤ) (th : ℤ) (sums : List ℤ) → length sums ≡ 40 → get_or sums 0 (pos 0) ≡ distance ws th (level 2 0)
    → get_or sums 32 (pos 0) ≡ pos 0
    → SumsTo ws th 0 sums
sums_to_none ws th sums n first other =
    record { size = n; low = λ q h. row q (omega arith); high = λ h k. block h (omega arith) }
  where
    row : (q : ℕ) → q ≡ 0 → get_or sums q (pos 0) ≡ distance ws th (level 2 q)
    row q e = rw e first

    block : (h : ℕ) → h ≡ 0 → get_or sums (32 + h) (pos 0) ≡ weighted_sum ws (level 2 (32 * h))
    block h e = rw e (other ∙ sym (row_zero ws))

-- after the last they are those of the vector
pub sums_to_all : (v : Vector) (sums : List ℤ) → SumsTo v.a v.b 8 sums → sums ≡ vector_sums v
unfolding vector_sums
sums_to_all v sums s = tabulate_get_d (place_sum v) 40 (pos 0) sums s.size (λ i l. at i l (dec_le 32 i))
  where
    at : (i : ℕ) → i < 40 → Dec (32 ≤ i) → get_or sums i (pos 0) ≡ place_sum v i
    at i l (yes high) =
        let h = i - 32 in
        let place : i ≡ 32 + h = omega arith in
        rw place (s.high h (omega arith) ∙ sym (place_high v h))
    at i l (no low) = s.low i (omega (arith, low)) ∙ sym (place_low v i (omega (arith, low)))

-- ---- the size of what is stored

module _ (v : Vector) (m : ℕ) (eight : length v.a ≡ 8) (small : magnitude v ≤ m) where
  -- the distance of a row of five inputs
  low_size : (q : ℕ) → q < 32 → nat_abs (distance v.a v.b (level 2 q)) ≤ m
  low_size q l = rw (← sums_low v q l) (omega (arith, sums_narrow v m eight small q 0 l (omega arith)))

  -- the sum of a row of the higher inputs
  high_size : (h : ℕ) → h < 8 → nat_abs (weighted_sum v.a (level 2 (32 * h))) ≤ m
  high_size h l = rw (← sums_high v h l) (omega (arith, sums_narrow v m eight small 0 h (omega arith) l))

  module _ (sums : List ℤ) where
    -- a partner's distance, as it is made
    pub low_made : (place q : ℕ) → place < 5 → SumsTo v.a v.b place sums → q < 2 ^ place
        → nat_abs (get_or sums (0 + q) (pos 0) +ℤ get_or v.a place (pos 0)) ≤ m
    low_made place q l s h =
        let before : 2 ^ min place 5 ≡ 2 ^ place = power (omega arith) in
        let half : 2 ^ place ≤ 16 = pow_mono {j = 4} (omega arith) in
        rw (zero-add q, s.low q (omega arith), ← partner_distance v.a v.b place q (level_past {n = place} q place h (omega arith)))
        (low_size (q + 2 ^ place) (omega arith))

    -- a partner's sum
    pub high_made : (place h : ℕ) → 5 ≤ place → place < 8 → SumsTo v.a v.b place sums → h < 2 ^ (place - 5)
        → nat_abs (get_or sums (32 + h) (pos 0) +ℤ get_or v.a place (pos 0)) ≤ m
    high_made place h up l s b =
        let half : 2 ^ (place - 5) ≤ 4 = pow_mono {j = 2} (omega arith) in
        rw (s.high h b, ← high_partner v.a place h up b) (high_size (h + 2 ^ (place - 5)) (omega arith))
