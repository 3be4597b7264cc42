-- A sound job (document 01, "The stepping machine"): what it says of a function and a state, and the test of it, which code computes on tables.
-- `is_sound_correct` of proofs/ joins the two. Definitions only. Assumes nothing.
use Rattle.std.specs.Prelude.{◌≡◌, Bool, true, false, not, ◌&&◌, ◌||◌, List, ℕ, suc, ◌+◌, ◌-◌, ◌*◌, ◌≤◌, leb, eqb, length, drop, pos, ◌+ℤ◌}
use Rattle.std.specs.Prelude.{Option, Some, None}
use Rattle.numbers.specs.Tests.{all_at_most, all_below, same_z}
use Rattle.std.specs.Prelude.{is_some}
use Rattle.types.specs.declared.vector.Vector.{Vector}
use Rattle.types.specs.declared.stage.Stage.{Stage}
use Rattle.types.specs.declared.stage.Stage.TheVariants.{Open, Found, Looped, Binate}
use Rattle.types.specs.declared.state.State.{State}
use Rattle.function.specs.Function.{Function, rows}
use Rattle.function.specs.Gate.{in_range}
use Rattle.function.specs.Witness.{side_sum, count_of, counts_cared, same_counts}
use Rattle.function.specs.Failing.{failing}
use Rattle.function.specs.Vector.{same_vector, zero_vector, component}
use Rattle.function.specs.Binate.{binate_place, binate_counts}
use Rattle.numbers.specs.Power.{highest}

-- the most corrections of a job
abbrev pub cap : ℕ
cap = 1000000

-- ---- the parts of a sound job

-- the arrays have the lengths of the code's types: eight weights, and a count for each of 256 rows
pub record Shaped (x : State) : Type 0 where
  pub weights : length x.v.a ≡ 8
  pub copied : length x.s.a ≡ 8
  pub counts : length x.counts ≡ 256

-- the components of a vector are within ±k, and the places past n are 0
abbrev pub Ranged : ℕ → ℕ → Vector → Type 0
Ranged k n v = in_range k n v.a v.b ≡ true

-- M: 0 if K is 0, else the highest power of two not above K; in stage looped the highest power below K
abbrev pub mark_for : Stage → ℕ → ℕ
mark_for Open k = highest k
mark_for Found k = highest k
mark_for Looped k = highest (k - 1)
mark_for Binate k = highest k

-- the counts add up to K − M, and v is s plus each row's correction times its count: true rows add their levels, false rows take
-- theirs away
pub record Traced (f : Function) (x : State) : Type 0 where
  pub total : side_sum f true (count_of x.counts) 0 + side_sum f false (count_of x.counts) 0 + x.mark ≡ x.k
  pub sum : (i : ℕ) → i ≤ f.places
      → component x.v i +ℤ pos (side_sum f false (count_of x.counts) i) ≡ component x.s i +ℤ pos (side_sum f true (count_of x.counts) i)

abbrev pub NotBinate : Function → Type 0
NotBinate f = binate_place f ≡ None

-- what each stage asks besides
abbrev pub SoundIn : Function → Stage → State → Type 0
SoundIn f Open x = Traced f x × NotBinate f × ((r : ℕ) × (failing f x.v ≡ Some r)) × (x.v ≡ x.s → all_at_most 0 x.counts ≡ true)
SoundIn f Found x = Traced f x × NotBinate f × (failing f x.v ≡ None)
SoundIn f Looped x = Traced f x × NotBinate f × (2 ≤ x.k) × (x.v ≡ x.s)
SoundIn f Binate x =
    (x.k ≡ 0) × (x.v ≡ zero_vector) × (x.s ≡ zero_vector) × ((place : ℕ) × (binate_place f ≡ Some place) × (x.counts ≡ binate_counts f place))

-- a sound job: the parts that every stage has, and what its own stage asks. The components are within ±(top × K), which is ±K on a table;
-- rows that are not cared for and those past the last have no count
pub record Sound (f : Function) (x : State) : Type 0 where
  pub shaped : Shaped x
  pub capped : x.k ≤ cap
  pub current : Ranged (f.top * x.k) f.places x.v
  pub copied : Ranged (f.top * x.k) f.places x.s
  pub cared : (r : ℕ) → f.cared r ≡ false → count_of x.counts r ≡ 0
  pub past : all_at_most 0 (drop (rows f) x.counts) ≡ true
  pub mark : x.mark ≡ mark_for x.stage x.k
  pub staged : SoundIn f x.stage x

-- ---- the test, part by part

unfoldable pub is_traced : Function → State → Bool
is_traced f x =
    eqb (side_sum f true (count_of x.counts) 0 + side_sum f false (count_of x.counts) 0 + x.mark) x.k
    && all_below (suc f.places)
    (λ i. same_z (component x.v i +ℤ pos (side_sum f false (count_of x.counts) i)) (component x.s i +ℤ pos (side_sum f true (count_of x.counts) i)))

abbrev pub is_binate_with : Function → Option ℕ → List ℕ → Bool
is_binate_with f None counts = false
is_binate_with f (Some place) counts = same_counts counts (binate_counts f place)

unfoldable pub sound_in : Function → Stage → State → Bool
sound_in f Open x =
    is_traced f x && not (is_some (binate_place f)) && is_some (failing f x.v) && (not (same_vector x.v x.s) || all_at_most 0 x.counts)
sound_in f Found x = is_traced f x && not (is_some (binate_place f)) && not (is_some (failing f x.v))
sound_in f Looped x = is_traced f x && not (is_some (binate_place f)) && leb 2 x.k && same_vector x.v x.s
sound_in f Binate x = eqb x.k 0 && same_vector x.v zero_vector && same_vector x.s zero_vector && is_binate_with f (binate_place f) x.counts

abbrev pub is_shaped : State → Bool
is_shaped x = eqb (length x.v.a) 8 && eqb (length x.s.a) 8 && eqb (length x.counts) 256

unfoldable pub is_sound : Function → State → Bool
is_sound f x =
    is_shaped x
    && leb x.k cap
    && in_range (f.top * x.k) f.places x.v.a x.v.b
    && in_range (f.top * x.k) f.places x.s.a x.s.b
    && counts_cared f (count_of x.counts)
    && all_at_most 0 (drop (rows f) x.counts)
    && eqb x.mark (mark_for x.stage x.k)
    && sound_in f x.stage x
