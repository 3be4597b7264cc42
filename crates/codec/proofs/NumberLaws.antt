-- Writing and reading a number are inverse: the bytes of a number below 2^21 are read as it, and bytes that are read as a number are its
-- own. So are a signed number and its code. Assumes nothing.
use Rattle.types.specs.declared.refusal.Refusal.TheVariants as Refusal'
use Rattle.std.specs.Prelude.{Ok}
use mathlib.Core.Path.{◌≡◌, refl, ap}
use mathlib.Core.Bool.{Bool, true, false, cond, ◌&&◌}
use mathlib.Core.List.{List, [], ◌∷◌}
use Prim.Native.Nat.{ℕ, zero, suc, ◌+◌, ◌-◌, ◌*◌, ◌/◌, ◌%◌, ◌^◌, ◌≤◌, ◌<◌}
use native.Mathlib.Omega.{arith}
use lib.Dec.{ltb, eqb}
use lib.ListN.{length, get_or}
use lib.IntN.{ℤ, pos, negsuc}
use borrow.Author.Tests.{ltb-true, ltb-false, eqb-true, eqb-false, lt-ltb, le-ltb, eq-eqb, ne_eqb}
use Rattle.table.specs.Gate.{weight_limit, within}
use Rattle.function.proofs.RangeLaws.{within_correct}
use Rattle.codec.specs.Field.{Field, Reading, field, onward}
use Rattle.codec.specs.Number.{group_bytes, number_bytes, last_group, groups_at, number_at, signed_code, signed_of}
use Rattle.codec.proofs.FieldLaws.{onward_answered, checked_onward, checked_answered}
use Rattle.codec.proofs.StandsLaws.{Stands, AllBytes, stands_head, stands_back, stands_byte, stands_join}

-- ---- the groups of a number

-- a number of one group is its own byte
group_last : (groups x : ℕ) → x < 128 → group_bytes (suc groups) x ≡ x ∷ []
unfolding group_bytes
group_last groups x h = rw (lt-ltb x 128 h)

-- the lowest group of any other stands first
group_more : (groups x : ℕ) → 128 ≤ x → group_bytes (suc groups) x ≡ (128 + x % 128) ∷ group_bytes groups (x / 128)
unfolding group_bytes
group_more groups x h = rw (le-ltb x 128 h)

-- a number below 2^7 is its own byte
pub number_one : (x : ℕ) → x < 128 → number_bytes x ≡ x ∷ []
unfolding number_bytes
number_one x h = group_last 2 x h

-- one below 2^14 has two groups
pub number_two : (x : ℕ) → 128 ≤ x → x < 16384 → number_bytes x ≡ (128 + x % 128) ∷ (x / 128) ∷ []
unfolding number_bytes
number_two x h k = rw (group_more 2 x h, group_last 1 (x / 128) (omega arith))

-- one below 2^21 has three
pub number_three : (x : ℕ) → 16384 ≤ x → x < 2097152 → number_bytes x ≡ (128 + x % 128) ∷ (128 + x / 128 % 128) ∷ (x / 16384) ∷ []
unfolding number_bytes
number_three x h k =
    let high : x / 128 / 128 ≡ x / 16384 = omega arith in
    rw (group_more 2 x (omega arith), group_more 1 (x / 128) (omega arith), group_last 0 (x / 128 / 128) (omega arith), high)

groups_length : (groups x : ℕ) → length (group_bytes groups x) ≤ groups
unfolding group_bytes
groups_length zero x = omega arith
groups_length (suc groups) x = by (groups_length groups (x / 128)) (ltb x 128)
  where
    by : length (group_bytes groups (x / 128)) ≤ groups → (t : Bool) → length (cond t (x ∷ []) ((128 + x % 128) ∷ group_bytes groups (x / 128))) ≤ suc groups
    by h true = omega arith
    by h false = omega arith

-- a number has one to three bytes
pub number_length : (x : ℕ) → (1 ≤ length (number_bytes x)) × (length (number_bytes x) ≤ 3)
unfolding number_bytes group_bytes
number_length x = (by (ltb x 128), groups_length 3 x)
  where
    by : (t : Bool) → 1 ≤ length (cond t (x ∷ []) ((128 + x % 128) ∷ group_bytes 2 (x / 128)))
    by true = omega arith
    by false = omega arith

-- ---- what is written is read

-- a number that comes after another group is not 0
abbrev Fits : Bool → ℕ → Type 0
Fits true x = 0 < x
Fits false x = Unit {0}

module _ (s : List ℕ) where
  last_read : (groups : ℕ) (later : Bool) (at x : ℕ) → x < 128 → Fits later x → Stands s at (x ∷ []) → groups_at (suc groups) later s at ≡ Ok (field x (at + 1))
  unfolding groups_at
  last_read groups later at x h p t =
      let head = stands_head s at x [] t in
      rw (head.1, le-ltb (length s) (at + 1) (omega arith), lt-ltb x 128 h, kept later p)
    where
      kept : (later : Bool) → Fits later x → (later && eqb x 0) ≡ false
      kept true p = ne_eqb x 0 (omega arith)
      kept false p = refl

  more_read : (groups : ℕ) (later : Bool) (at x next : ℕ) → 128 ≤ x → at < length s → get_or s at 0 ≡ 128 + x % 128
      → groups_at groups true s (at + 1) ≡ Ok (field (x / 128) next) → groups_at (suc groups) later s at ≡ Ok (field x next)
  unfolding groups_at
  more_read groups later at x next h l e ih =
      rw (e, le-ltb (length s) (at + 1) (omega arith), le-ltb (128 + x % 128) 128 (omega arith), ih) (ap (λ (y : ℕ). Ok (field y next)) (omega arith))

  group_read : (groups : ℕ) (later : Bool) (at x : ℕ) → Fits later x → Stands s at (group_bytes (suc groups) x)
      → (128 ≤ x → Stands s (at + 1) (group_bytes groups (x / 128)) → groups_at groups true s (at + 1) ≡ Ok (field (x / 128) (at + 1 + length (group_bytes groups (x / 128)))))
      → groups_at (suc groups) later s at ≡ Ok (field x (at + length (group_bytes (suc groups) x)))
  group_read groups later at x p t ih = by (ltb x 128) refl
    where
      by : (v : Bool) → ltb x 128 ≡ v → groups_at (suc groups) later s at ≡ Ok (field x (at + length (group_bytes (suc groups) x)))
      by true e =
          let bytes = group_last groups x (ltb-true x 128 e) in
          rw bytes (last_read groups later at x (ltb-true x 128 e) p (rw bytes at t))
      by false e =
          let bytes = group_more groups x (ltb-false x 128 e) in
          let higher = group_bytes groups (x / 128) in
          let t' : Stands s at ((128 + x % 128) ∷ higher) = rw bytes at t in
          let first = stands_head s at (128 + x % 128) higher t' in
          let later-on = ih (ltb-false x 128 e) (stands_back s at ((128 + x % 128) ∷ []) higher t') in
          let end : at + 1 + length higher ≡ at + suc (length higher) = omega arith in
          rw (bytes, ← end) (more_read groups later at x (at + 1 + length higher) (ltb-false x 128 e) first.0 first.1 later-on)

  groups_read : (groups : ℕ) (later : Bool) (at x : ℕ) → x < 128 ^ suc groups → Fits later x → Stands s at (group_bytes (suc groups) x)
      → groups_at (suc groups) later s at ≡ Ok (field x (at + length (group_bytes (suc groups) x)))
  groups_read zero later at x h p t = group_read 0 later at x p t (λ k. absurd (omega arith))
  groups_read (suc groups) later at x h p t = group_read (suc groups) later at x p t (λ k. groups_read groups true (at + 1) (x / 128) (omega arith) (omega arith))

-- the bytes of a number are read as it
pub number_read : (s : List ℕ) (at x : ℕ) → x < 2097152 → Stands s at (number_bytes x) → number_at s at ≡ Ok (field x (at + length (number_bytes x)))
unfolding number_at number_bytes
number_read s at x h t = groups_read s 2 false at x h tt t

-- ---- what is read is written

-- what reading a group gave: the last one, or one before others
data Group (groups : ℕ) (later : Bool) (s : List ℕ) (at : ℕ) (f : Field ℕ) : Type 0 where
  last : get_or s at 0 < 128 → (later && eqb (get_or s at 0) 0) ≡ false → field (get_or s at 0) (at + 1) ≡ f → Group groups later s at f
  more : 128 ≤ get_or s at 0 → (h : Field ℕ) → groups_at groups true s (at + 1) ≡ Ok h → field (get_or s at 0 - 128 + 128 * h.value) h.next ≡ f
      → Group groups later s at f

group_of : (groups : ℕ) (later : Bool) (s : List ℕ) (at : ℕ) (f : Field ℕ) → groups_at (suc groups) later s at ≡ Ok f → (at < length s) × Group groups later s at f
unfolding groups_at
group_of groups later s at f e =
    let read = checked_onward Refusal'.EndsEarly (ltb (length s) (at + 1)) (cond (ltb b 128) (last_group later b at) rest) f e in
    (omega (arith, ltb-false (length s) (at + 1) read.0), by (ltb b 128) refl read.1)
  where
    b : ℕ
    b = get_or s at 0

    joined : ℕ → ℕ → Reading ℕ
    joined higher next = Ok (field (b - 128 + 128 * higher) next)

    rest : Reading ℕ
    rest = onward (groups_at groups true s (at + 1)) joined

    by : (t : Bool) → ltb b 128 ≡ t → cond t (last_group later b at) rest ≡ Ok f → Group groups later s at f
    by true c d = let kept = checked_answered Refusal'.Number (later && eqb b 0) (field b (at + 1)) f d in last (ltb-true b 128 c) kept.0 kept.1
    by false c d = let (h, first, same) = onward_answered (groups_at groups true s (at + 1)) joined f d in more (ltb-false b 128 c) h first (cc)

-- what reading so many groups gave: the number's own bytes stand there
record GroupsRead (groups : ℕ) (later : Bool) (s : List ℕ) (at : ℕ) (f : Field ℕ) : Type 0 where
  stands : Stands s at (group_bytes groups f.value)
  next : f.next ≡ at + length (group_bytes groups f.value)
  small : f.value < 128 ^ groups
  fits : Fits later f.value

module _ (s : List ℕ) where
  last_written : (groups : ℕ) (later : Bool) (at b : ℕ) → Stands s at (b ∷ []) → b < 128 → (later && eqb b 0) ≡ false → GroupsRead (suc groups) later s at (field b (at + 1))
  last_written groups later at b t h k =
      let bytes = group_last groups b h in
      record { stands = rw bytes t; next = rw bytes refl; small = omega (arith, some groups); fits = fits later k }
    where
      some : (groups : ℕ) → 1 ≤ 128 ^ groups
      some zero = omega arith
      some (suc groups) = omega (arith, some groups)

      fits : (later : Bool) → (later && eqb b 0) ≡ false → Fits later b
      fits true k = omega (arith, eqb-false b 0 k)
      fits false k = tt

  more_written : (groups : ℕ) (later : Bool) (at b : ℕ) (h : Field ℕ) → Stands s at (b ∷ []) → 128 ≤ b → b < 256 → GroupsRead groups true s (at + 1) h
      → GroupsRead (suc groups) later s at (field (b - 128 + 128 * h.value) h.next)
  more_written groups later at b h t l k r =
      let x = b - 128 + 128 * h.value in
      let above : 0 < h.value = r.fits in
      let low : 128 + x % 128 ≡ b = omega arith in
      let high : x / 128 ≡ h.value = omega arith in
      let bytes : group_bytes (suc groups) x ≡ b ∷ group_bytes groups h.value = rw (group_more groups x (omega arith), low, high) in
      record {
        stands = rw bytes (stands_join s at (b ∷ []) (group_bytes groups h.value) t r.stands);
        next = rw bytes (omega (arith, r.next));
        small = omega (arith, r.small);
        fits = fits later (omega arith);
      }
    where
      fits : (later : Bool) {x : ℕ} → 0 < x → Fits later x
      fits true p = p
      fits false p = tt

  groups_written : (groups : ℕ) (later : Bool) (at : ℕ) (f : Field ℕ) → AllBytes s → groups_at groups later s at ≡ Ok f → GroupsRead groups later s at f
  unfolding groups_at
  groups_written zero later at f a e = cc
  groups_written (suc groups) later at f a e = let (l, g) = group_of groups later s at f e in by l (λ h. groups_written groups true (at + 1) h a) g
    where
      by : at < length s → ((h : Field ℕ) → groups_at groups true s (at + 1) ≡ Ok h → GroupsRead groups true s (at + 1) h) → Group groups later s at f
          → GroupsRead (suc groups) later s at f
      by l ih (last h k same) = rw (← same) (last_written groups later at (get_or s at 0) (stands_byte s at l) h k)
      by l ih (more k h rest same) = rw (← same) (more_written groups later at (get_or s at 0) h (stands_byte s at l) k (a at l) (ih h rest))

  groups_next : (groups : ℕ) (later : Bool) (at : ℕ) (f : Field ℕ) → groups_at groups later s at ≡ Ok f → (at < f.next) × (f.next ≤ length s)
  unfolding groups_at
  groups_next zero later at f e = cc
  groups_next (suc groups) later at f e = let (l, g) = group_of groups later s at f e in by l (groups_next groups true (at + 1)) g
    where
      by : at < length s → ((h : Field ℕ) → groups_at groups true s (at + 1) ≡ Ok h → (at + 1 < h.next) × (h.next ≤ length s)) → Group groups later s at f
          → (at < f.next) × (f.next ≤ length s)
      by l ih (last h k same) = omega (arith, ap (λ (f : Field ℕ). f.next) same)
      by l ih (more k h rest same) = omega (arith, ap (λ (f : Field ℕ). f.next) same, ih h rest)

-- what reading a number gave: its own bytes stand there, and it ends where they do
pub record NumberRead (s : List ℕ) (at : ℕ) (f : Field ℕ) : Type 0 where
  pub stands : Stands s at (number_bytes f.value)
  pub next : f.next ≡ at + length (number_bytes f.value)
  pub small : f.value < 2097152

-- where a number is read, its bytes stand
pub number_written : (s : List ℕ) (at : ℕ) (f : Field ℕ) → AllBytes s → number_at s at ≡ Ok f → NumberRead s at f
unfolding number_at number_bytes
number_written s at f a e = let r = groups_written s 3 false at f a e in record { stands = r.stands; next = r.next; small = r.small }

-- a number that is read takes at least one byte, and all of them stand within
pub number_next : (s : List ℕ) (at : ℕ) (f : Field ℕ) → number_at s at ≡ Ok f → (at < f.next) × (f.next ≤ length s)
unfolding number_at
number_next s at f e = groups_next s 3 false at f e

-- ---- signed numbers

-- the integer of a code is the one that it was made of
pub signed_back : (z : ℤ) → signed_of (signed_code z) ≡ z
signed_back (pos n) = rw (eq-eqb (2 * n % 2) 0 (omega arith)) (ap pos (omega arith))
signed_back (negsuc n) = rw (ne_eqb ((2 * n + 1) % 2) 0 (omega arith)) (ap negsuc (omega arith))

-- and the code of an integer likewise
pub code_back : (x : ℕ) → signed_code (signed_of x) ≡ x
code_back x = by (eqb (x % 2) 0) refl
  where
    by : (t : Bool) → eqb (x % 2) 0 ≡ t → signed_code (cond t (pos (x / 2)) (negsuc (x / 2))) ≡ x
    by true e = omega (arith, eqb-true (x % 2) 0 e)
    by false e = omega (arith, eqb-false (x % 2) 0 e)

-- a weight's code is a number of three groups
pub signed_small : (z : ℤ) → within weight_limit z ≡ true → signed_code z < 2097152
signed_small (pos n) e = omega (arith, (within_correct weight_limit (pos n)).0 e)
signed_small (negsuc n) e = omega (arith, (within_correct weight_limit (negsuc n)).0 e)
