-- The n weights and b of a vector as bytes: what is written is read again, and what is read was written. Assumes nothing.
use Rattle.types.specs.declared.refusal.Refusal.TheVariants as Refusal'
use Rattle.std.specs.Prelude.{Ok}
use mathlib.Core.Path.{◌≡◌, refl, sym, ◌∙◌, ap}
use mathlib.Core.Bool.{Bool, true, false, not, cond, ◌&&◌}
use mathlib.Core.List.{List}
use Prim.Native.Nat.{ℕ, zero, suc, ◌+◌, ◌≤◌, ◌<◌}
use native.Mathlib.Nat.{add-zero}
use native.Mathlib.Decide.{ℕ_discrete}
use native.Mathlib.Omega.{arith}
use lib.ListN.{length, get_or, set, length-set, get_or-replicate}
use lib.Seq.{get_or-set_same, get_or-set_other, ext_get_or}
use lib.IntN.{ℤ, pos, nat_abs}
use lib.Dec.{ltb}
use borrow.Author.Tests.{not-false, ltb-true, ltb-false}
use Rattle.numbers.proofs.TestLaws.{no_true}
use Rattle.table.specs.Gate.{weight_limit, within, in_range}
use Rattle.types.specs.declared.vector.Vector.{Vector}
use Rattle.function.specs.Vector.{zero_vector}
use Rattle.function.proofs.RangeLaws.{within_correct, in_range_correct, in_range_at, in_range_past}
use Rattle.codec.specs.Field.{Field, field}
use Rattle.codec.specs.Number.{number_bytes, number_at, signed_code, signed_of}
use Rattle.codec.specs.VectorField.{weight_bytes, vector_bytes, signed_at, weights_at, vector_at}
use Rattle.codec.proofs.FieldLaws.{onward_answered, checked_answered}
use Rattle.codec.proofs.StandsLaws.{Stands, AllBytes, stands_nil, stands_front, stands_back, after_both, both_stand}
use Rattle.codec.proofs.NumberLaws.{number_read, number_written, signed_back, code_back, signed_small}

-- ---- a signed number

-- the rule of ranges is kept by what is in range
kept_range : (strict : Bool) (z : ℤ) → within weight_limit z ≡ true → (strict && not (within weight_limit z)) ≡ false
kept_range true z h = rw h
kept_range false z h = refl

-- and only by that, where ranges are refused
range_kept : (strict : Bool) (z : ℤ) → (strict && not (within weight_limit z)) ≡ false → strict ≡ true → within weight_limit z ≡ true
range_kept true z h e = not-false (within weight_limit z) h
range_kept false z h e = absurd (no_true e)

-- a signed number in its range is read where it stands
pub signed_read : (strict : Bool) (z : ℤ) (s : List ℕ) (at : ℕ) → within weight_limit z ≡ true → Stands s at (number_bytes (signed_code z))
    → signed_at strict s at ≡ Ok (field z (at + length (number_bytes (signed_code z))))
signed_read strict z s at h k = simp (number_read s at (signed_code z) (signed_small z h) k, signed_back z, kept_range strict z h)

-- the number that a signed one was read from
record SignedParts (strict : Bool) (s : List ℕ) (at : ℕ) (f : Field ℤ) : Type 0 where
  code : Field ℕ
  number : number_at s at ≡ Ok code
  kept : (strict && not (within weight_limit (signed_of code.value))) ≡ false
  value : f.value ≡ signed_of code.value
  next : f.next ≡ code.next

signed_parts : (strict : Bool) (s : List ℕ) (at : ℕ) (f : Field ℤ) → signed_at strict s at ≡ Ok f → SignedParts strict s at f
signed_parts strict s at f e =
    let (x, number, rest) = onward_answered (number_at s at) _ f e in
    let z = signed_of x.value in
    let (kept, same) = checked_answered Refusal'.Gate (strict && not (within weight_limit z)) (field z x.next) f rest in
    record { code = x; number = number; kept = kept; value = cc; next = cc }

-- what reading a signed number gave: its own bytes stand there; it is in its range, where ranges are refused
pub record SignedRead (strict : Bool) (s : List ℕ) (at : ℕ) (f : Field ℤ) : Type 0 where
  pub stands : Stands s at (number_bytes (signed_code f.value))
  pub next : f.next ≡ at + length (number_bytes (signed_code f.value))
  pub ranged : strict ≡ true → within weight_limit f.value ≡ true

-- where a signed number is read, its bytes stand
pub signed_written : (strict : Bool) (s : List ℕ) (at : ℕ) (f : Field ℤ) → AllBytes s → signed_at strict s at ≡ Ok f → SignedRead strict s at f
signed_written strict s at f bytes e =
    let p = signed_parts strict s at f e in
    let w = number_written s at p.code bytes p.number in
    let same : signed_code f.value ≡ p.code.value = ap signed_code p.value ∙ code_back p.code.value in
    record {
      stands = rw same w.stands;
      next = rw same (p.next ∙ w.next);
      ranged = rw p.value (range_kept strict (signed_of p.code.value) p.kept);
    }

-- ---- the weights

-- two arrays agree but for so many places from one on
abbrev Agree : List ℤ → List ℤ → ℕ → ℕ → Type 0
Agree a w left place = (i : ℕ) → i < 8 → (place ≤ i → place + left ≤ i) → get_or a i (pos 0) ≡ get_or w i (pos 0)

-- and once the first of these is put in its place, but for one less
agree_set : (a w : List ℤ) (left place : ℕ) → place < length a → Agree a w (suc left) place
    → Agree (set a place (get_or w place (pos 0))) w left (suc place)
agree_set a w left place h f i l out = by (ℕ_discrete i place)
  where
    by : Dec (i ≡ place) → get_or (set a place (get_or w place (pos 0))) i (pos 0) ≡ get_or w i (pos 0)
    by (yes e) = rw (e, get_or-set_same a place (get_or w place (pos 0)) (pos 0) h)
    by (no n) = rw (get_or-set_other a place i (get_or w place (pos 0)) (pos 0) n) (f i l (λ low. omega (arith, out (omega arith))))

-- so many weights from a place on are in their range
abbrev AllWithin : List ℤ → ℕ → ℕ → Type 0
AllWithin w left place = (i : ℕ) → place ≤ i → i < place + left → within weight_limit (get_or w i (pos 0)) ≡ true

-- one more, where the first of them is
all_within_suc : (w : List ℤ) (left place : ℕ) → within weight_limit (get_or w place (pos 0)) ≡ true → AllWithin w left (suc place)
    → AllWithin w (suc left) place
all_within_suc w left place here above i low high = by (ℕ_discrete i place)
  where
    by : Dec (i ≡ place) → within weight_limit (get_or w i (pos 0)) ≡ true
    by (yes e) = rw e here
    by (no n) = above i (omega arith) (omega arith)

-- weights in their range are read where they stand, into an array that agrees with theirs at all other places
weights_read : (strict : Bool) (left place : ℕ) (a w : List ℤ) (s : List ℕ) (at : ℕ) → length a ≡ 8 → length w ≡ 8 → place + left ≤ 8
    → Agree a w left place → AllWithin w left place → Stands s at (weight_bytes w left place)
    → weights_at strict left place a s at ≡ Ok (field w (at + length (weight_bytes w left place)))
unfolding weight_bytes weights_at
weights_read strict zero place a w s at long long' h f ranged k =
    rw (ext_get_or (pos 0) a w (long ∙ sym long') (λ i l. f i (omega arith) (λ low. omega arith)), add-zero)
weights_read strict (suc left) place a w s at long long' h f ranged k =
    let z = get_or w place (pos 0) in
    let first = number_bytes (signed_code z) in
    let others = weight_bytes w left (suc place) in
    rw (signed_read strict z s at (ranged place (omega arith) (omega arith)) (stands_front s at first others k), ← after_both at first others)
    (weights_read strict left (suc place) (set a place z) w s (at + length first)
    (length-set a place z ∙ long) long' (omega arith) (agree_set a w left place (omega arith) f)
    (λ i low high. ranged i (omega arith) (omega arith)) (stands_back s at first others k))

-- what reading weights from a place on gave: their own bytes stand there; they are in their range, where ranges are refused; the other
-- places are as they were
record WeightsRead (strict : Bool) (left place : ℕ) (a : List ℤ) (s : List ℕ) (at : ℕ) (f : Field (List ℤ)) : Type 0 where
  stands : Stands s at (weight_bytes f.value left place)
  next : f.next ≡ at + length (weight_bytes f.value left place)
  long : length f.value ≡ 8
  kept : Agree f.value a left place
  ranged : strict ≡ true → AllWithin f.value left place

-- where weights are read, their bytes stand
weights_written : (strict : Bool) (left place : ℕ) (a : List ℤ) (s : List ℕ) (at : ℕ) (f : Field (List ℤ)) → length a ≡ 8 → place + left ≤ 8
    → AllBytes s → weights_at strict left place a s at ≡ Ok f → WeightsRead strict left place a s at f
unfolding weight_bytes weights_at
weights_written strict zero place a s at f long h bytes e =
    let same : f.value ≡ a = cc in
    let here : f.next ≡ at = cc in
    record {
      stands = stands_nil s at;
      next = omega arith;
      long = ap length same ∙ long;
      kept = λ i l out. ap (λ (l : List ℤ). get_or l i (pos 0)) same;
      ranged = λ t i low high. absurd (omega arith);
    }
weights_written strict (suc left) place a s at f long h bytes e =
    let (z, first, rest) = onward_answered (signed_at strict s at) _ f e in
    joined z (signed_written strict s at z bytes first)
    (weights_written strict left (suc place) (set a place z.value) s z.next f (length-set a place z.value ∙ long) (omega arith) bytes rest)
  where
    joined : (z : Field ℤ) → SignedRead strict s at z → WeightsRead strict left (suc place) (set a place z.value) s z.next f
        → WeightsRead strict (suc left) place a s at f
    joined z x y =
        let first = number_bytes (signed_code z.value) in
        let others = weight_bytes f.value left (suc place) in
        let both = both_stand s at first others x.stands x.next y.stands y.next in
        let put : get_or f.value place (pos 0) ≡ z.value =
        y.kept place (omega arith) (λ low. omega arith) ∙ get_or-set_same a place z.value (pos 0) (omega arith) in
        record {
          stands = rw put both.0;
          next = rw put both.1;
          long = y.long;
          kept = λ i l out.
              y.kept i l (λ low. omega (arith, out (omega arith)))
              ∙ get_or-set_other a place i z.value (pos 0) (λ e. omega (arith, out (omega arith)));
          ranged = λ t. all_within_suc f.value left place (rw put (x.ranged t)) (y.ranged t);
        }

-- ---- the vector

-- n weights and b in their range, where all other places hold 0, are a vector in its range
range_from : (n : ℕ) (w : List ℤ) (b : ℤ) → AllWithin w n 0 → Agree w zero_vector.a n 0 → within weight_limit b ≡ true → in_range weight_limit n w b ≡ true
range_from n w b ranged past low =
    (in_range_correct weight_limit n w b).1 (record { threshold = (within_correct weight_limit b).0 low; places = λ i l. by i l (ltb i n) refl })
  where
    by : (i : ℕ) → i < 8 → (t : Bool) → ltb i n ≡ t → nat_abs (get_or w i (pos 0)) ≤ cond t weight_limit 0
    by i l true e = (within_correct weight_limit (get_or w i (pos 0))).0 (ranged i (omega arith) (omega (arith, ltb-true)))
    by i l false e = rw (past i l (λ low. omega (arith, ltb-false i n e)), get_or-replicate 8 i (pos 0) (pos 0) l) (omega arith)

-- a vector in its range is read where it stands
pub vector_read : (strict : Bool) (n : ℕ) (v : Vector) (s : List ℕ) (at : ℕ) → n ≤ 8 → length v.a ≡ 8 → in_range weight_limit n v.a v.b ≡ true
    → Stands s at (vector_bytes n v) → vector_at strict n s at ≡ Ok (field v (at + length (vector_bytes n v)))
unfolding vector_bytes vector_at
vector_read strict n v s at h long e k =
    let f = (in_range_correct weight_limit n v.a v.b).0 e in
    let first = weight_bytes v.a n 0 in
    let last = number_bytes (signed_code v.b) in
    let past : Agree zero_vector.a v.a n 0 = λ i l out. get_or-replicate 8 i (pos 0) (pos 0) l ∙ sym (in_range_past f i (omega (arith, out (omega arith))) l) in
    let ranged : AllWithin v.a n 0 = λ i low high. (within_correct weight_limit (get_or v.a i (pos 0))).1 (in_range_at f i (omega arith)) in
    rw (
      weights_read strict n 0 zero_vector.a v.a s at refl long (omega arith) past ranged (stands_front s at first last k),
      signed_read strict v.b s (at + length first) ((within_correct weight_limit v.b).1 f.threshold) (stands_back s at first last k),
      ← after_both at first last,
    )

-- the weights and b that a vector was read from
record VectorParts (strict : Bool) (n : ℕ) (s : List ℕ) (at : ℕ) (f : Field Vector) : Type 0 where
  weights : Field (List ℤ)
  last : Field ℤ
  first_read : weights_at strict n 0 zero_vector.a s at ≡ Ok weights
  last_read : signed_at strict s weights.next ≡ Ok last
  whole : f ≡ field (record { a = weights.value; b = last.value }) last.next

vector_parts : (strict : Bool) (n : ℕ) (s : List ℕ) (at : ℕ) (f : Field Vector) → vector_at strict n s at ≡ Ok f → VectorParts strict n s at f
unfolding vector_at
vector_parts strict n s at f e =
    let (weights, first, rest) = onward_answered (weights_at strict n 0 zero_vector.a s at) _ f e in
    let (last, second, same) = onward_answered (signed_at strict s weights.next) _ f rest in
    record { weights = weights; last = last; first_read = first; last_read = second; whole = cc }

-- what reading a vector gave: its own bytes stand there; it has eight places, and is in its range, where ranges are refused
pub record VectorRead (strict : Bool) (n : ℕ) (s : List ℕ) (at : ℕ) (f : Field Vector) : Type 0 where
  pub stands : Stands s at (vector_bytes n f.value)
  pub next : f.next ≡ at + length (vector_bytes n f.value)
  pub long : length f.value.a ≡ 8
  pub ranged : strict ≡ true → in_range weight_limit n f.value.a f.value.b ≡ true

-- where a vector is read, its bytes stand
pub vector_written : (strict : Bool) (n : ℕ) (s : List ℕ) (at : ℕ) (f : Field Vector) → n ≤ 8 → AllBytes s → vector_at strict n s at ≡ Ok f
    → VectorRead strict n s at f
unfolding vector_bytes
vector_written strict n s at f h bytes e =
    let p = vector_parts strict n s at f e in
    let x = weights_written strict n 0 zero_vector.a s at p.weights refl (omega arith) bytes p.first_read in
    let y = signed_written strict s p.weights.next p.last bytes p.last_read in
    let both = both_stand s at (weight_bytes p.weights.value n 0) (number_bytes (signed_code p.last.value)) x.stands x.next y.stands y.next in
    rw p.whole
    record {
      stands = both.0;
      next = both.1;
      long = x.long;
      ranged = λ t. range_from n p.weights.value p.last.value (x.ranged t) x.kept (y.ranged t);
    }
