-- A number read group by group, as `read_number` reads it: what the groups still ahead give, put at their scale onto the value so far, is
-- the number, and one law for each way that the next group can go. Assumes nothing.
use Rattle.std.specs.Prelude.{Ok, Err}
use Rattle.types.specs.declared.refusal.Refusal.TheVariants as Refusal'
use mathlib.Core.Path.{◌≡◌, refl, ◌∙◌, ap}
use mathlib.Core.Bool.{Bool, true, false, ◌&&◌, and-false}
use mathlib.Core.Logic.{◌⊎◌, ⊎_elim}
use mathlib.Core.List.{List, [], ◌∷◌}
use Prim.Native.Nat.{ℕ, zero, suc, ◌+◌, ◌-◌, ◌*◌, ◌^◌, ◌≤◌, ◌<◌}
use native.Mathlib.Numerals.{add-one}
use native.Mathlib.Omega.{arith}
use native.Mathlib.Nat.{mul-le-mul_left, pow-suc}
use lib.Dec.{ltb, eqb}
use lib.ListN.{length, get_or}
use borrow.Author.Tests.{lt-ltb, le-ltb, ne_eqb}
use Rattle.codec.specs.Field.{Reading, field, onward}
use Rattle.codec.specs.Number.{last_group, groups_at, number_at}

-- a number that was read, put at a scale onto a value
abbrev placed : ℕ → ℕ → Reading ℕ → Reading ℕ
placed value scale r = onward r (λ x next. Ok (field (value + scale * x) next))

placed_once : (r : Reading ℕ) → r ≡ placed 0 1 r
placed_once (Ok f) = ap (λ (x : ℕ). Ok (field x f.next)) (omega arith)
placed_once (Err n) = refl

placed_twice : (value scale low : ℕ) (r : Reading ℕ) → placed value scale (placed low 128 r) ≡ placed (value + scale * low) (scale * 128) r
placed_twice value scale low (Ok f) = ap (λ (x : ℕ). Ok (field x f.next)) (omega arith)
placed_twice value scale low (Err n) = refl

-- the scales of the three groups
abbrev pub scale_at : ℕ → ℕ
scale_at groups = get_or (1 ∷ 128 ∷ 16384 ∷ []) groups 0

scale_is : (groups : ℕ) → groups < 3 → (128 ^ groups ≡ scale_at groups) × (ltb 0 groups ≡ ltb 1 (scale_at groups)) × (scale_at groups ≤ 16384)
scale_is zero h = (refl, refl, omega arith)
scale_is (suc zero) h = (refl, refl, omega arith)
scale_is (suc (suc zero)) h = (refl, refl, omega arith)
scale_is (suc (suc (suc n))) h = absurd (omega arith)

-- the byte that stands here
pub record Byte (s : List ℕ) (here byte : ℕ) : Type 0 where
  pub inside : here < length s
  pub is : get_or s here 0 ≡ byte

-- the next group: the bytes end there, it is the last, or others follow
module _ (left : ℕ) (later : Bool) where
  group_ends : (s : List ℕ) (here : ℕ) → length s ≤ here → groups_at (suc left) later s here ≡ Err Refusal'.EndsEarly
  unfolding groups_at
  group_ends s here h = simp (lt-ltb (length s) (here + 1) (omega arith))

  module _ {s : List ℕ} {here byte : ℕ} (b : Byte s here byte) where
    group_last : byte < 128 → groups_at (suc left) later s here ≡ last_group later byte here
    unfolding groups_at
    group_last low = rw (b.is, le-ltb (length s) (here + 1) (omega (arith, b.inside)), lt-ltb byte 128 low)

    group_more : 128 ≤ byte → groups_at (suc left) later s here ≡ placed (byte - 128) 128 (groups_at left true s (here + 1))
    unfolding groups_at
    group_more high = rw (b.is, le-ltb (length s) (here + 1) (omega (arith, b.inside)), le-ltb byte 128 high)

-- so many groups of the number at a position are read, and the next one is here
pub record Ahead (s : List ℕ) (at here groups value : ℕ) : Type 0 where
  pub small : value < 128 ^ groups
  pub goes_on : number_at s at ≡ placed value (128 ^ groups) (groups_at (3 - groups) (ltb 0 groups) s here)

-- no group is read yet
pub ahead_none : (s : List ℕ) (at : ℕ) → Ahead s at at 0 0
unfolding number_at
ahead_none s at = record { small = omega arith; goes_on = placed_once (groups_at 3 false s at) }

module _ {s : List ℕ} {at here groups value : ℕ} (a : Ahead s at here groups value) where
  -- three groups are read, and none was the last
  pub ahead_over : 3 ≤ groups → number_at s at ≡ Err Refusal'.Number
  unfolding groups_at
  ahead_over h = let none : 3 - groups ≡ 0 = omega arith in a.goes_on ∙ rw none

  module _ (h : groups < 3) where
    -- the value with any next group
    ahead_value : (group : ℕ) → group < 128 → value + scale_at groups * group < scale_at groups * 128
    ahead_value group g = omega (arith, a.small, scale_is groups h, mul-le-mul_left {m = group} {n = 127} (scale_at groups) (omega arith))

    -- is below 2097152
    pub ahead_small : (group : ℕ) → group < 128 → value + scale_at groups * group < 2097152
    ahead_small group g = omega (arith, ahead_value group g, scale_is groups h)

    goes_on_is : {r : Reading ℕ} → groups_at (suc (2 - groups)) (ltb 1 (scale_at groups)) s here ≡ r → number_at s at ≡ placed value (scale_at groups) r
    goes_on_is e =
        let left : 3 - groups ≡ suc (2 - groups) = omega arith in
        let (power, later, below) = scale_is groups h in
        a.goes_on ∙ rw (left, power, later, e)

    -- the bytes end before the next group
    pub ahead_ends : length s ≤ here → number_at s at ≡ Err Refusal'.EndsEarly
    ahead_ends e = goes_on_is (group_ends (2 - groups) (ltb 1 (scale_at groups)) s here e)

    module _ {byte : ℕ} (b : Byte s here byte) where
      module _ (low : byte < 128) where
        last_is : {r : Reading ℕ} → last_group (ltb 1 (scale_at groups)) byte here ≡ r → number_at s at ≡ placed value (scale_at groups) r
        last_is e = goes_on_is (group_last (2 - groups) (ltb 1 (scale_at groups)) b low ∙ e)

        -- the next group is the last, and 0 after another
        pub ahead_zero : byte ≡ 0 → 1 < scale_at groups → number_at s at ≡ Err Refusal'.Number
        ahead_zero e l = last_is {r = Err Refusal'.Number} (simp (lt-ltb 1 (scale_at groups) l, e))

        -- the next group is the last, and not 0 or the first
        pub ahead_last : ((byte ≡ 0) × (scale_at groups ≤ 1)) ⊎ (byte ≡ 0 → ⊥) → number_at s at ≡ Ok (field (value + scale_at groups * byte) (here + 1))
        ahead_last e = last_is {r = Ok (field byte (here + 1))} (simp (kept e))
          where
            kept : ((byte ≡ 0) × (scale_at groups ≤ 1)) ⊎ (byte ≡ 0 → ⊥) → (ltb 1 (scale_at groups) && eqb byte 0) ≡ false
            kept = ⊎_elim (λ w. simp (le-ltb 1 (scale_at groups) w.1)) (λ w. simp (ne_eqb byte 0 w, and-false))

      -- the next group is not the last
      pub ahead_next : 128 ≤ byte → byte < 256 → Ahead s at (here + 1) (groups + 1) (value + scale_at groups * (byte - 128))
      ahead_next high fits =
          let scale = scale_at groups in
          let group = byte - 128 in
          let next : 128 ^ (groups + 1) ≡ scale * 128 = rw (add-one, pow-suc) (omega (arith, scale_is groups h)) in
          let left : 3 - (groups + 1) ≡ 2 - groups = omega arith in
          record {
            small = rw next (ahead_value group (omega arith));
            goes_on = goes_on_is (group_more (2 - groups) (ltb 1 scale) b high)
                ∙ placed_twice value scale group (groups_at (2 - groups) true s (here + 1))
                ∙ rw (next, left, lt-ltb 0 (groups + 1) (omega arith));
          }
