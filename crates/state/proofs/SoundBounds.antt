-- What code takes from a sound state: what its stage asks, the ranges of its vectors, and counts that are at most K, so that a step wraps
-- nothing. A count is a term of the sum that is K − M. Assumes nothing.
use mathlib.Core.Path.{◌≡◌, refl, ◌∙◌, ap, subst}
use mathlib.Core.Logic.{◌≢◌}
use mathlib.Core.Bool.{Bool, true, false}
use Prim.Native.Nat.{ℕ, ◌+◌, ◌*◌, ◌-◌, ◌≤◌, ◌<◌}
use native.Mathlib.Nat.{one-mul}
use native.Mathlib.Decide.{dec_le}
use native.Mathlib.Omega.{arith}
use mathlib.Core.List.{List}
use lib.ListN.{get_or, drop}
use lib.Seq.{get_or-drop}
use lib.IntN.{ℤ}
use borrow.Author.Tests.{lt-ltb}
use Rattle.numbers.specs.Tests.{all_at_most}
use Rattle.numbers.proofs.TestLaws.{all_at_most_at}
use Rattle.function.specs.Function.{Function, rows}
use Rattle.function.specs.Witness.{side_sum, count_of}
use Rattle.function.proofs.WitnessLaws.{side_sum_term}
use Rattle.function.specs.Gate.{weight_limit, in_range}
use Rattle.types.specs.declared.state.State.{State}
use Rattle.types.specs.declared.stage.Stage.{Stage}
use Rattle.types.specs.declared.stage.Stage.TheVariants.{Open, Found, Looped, Binate}
use Rattle.state.specs.Sound.{cap, Ranged, Traced, SoundIn, Sound}
use Rattle.function.proofs.RangeLaws.{InRange, in_range_correct, in_range_at}

-- the count of a row of a traced state is at most K − M
pub traced_count : {f : Function} {x : State} → Traced f x → (r : ℕ) → r < rows f → count_of x.counts r + x.mark ≤ x.k
traced_count {f} {x} traced r h = by (f.value r) (side_sum_term f (count_of x.counts) 0 r h)
  where
    by : (y : Bool) → count_of x.counts r * 1 ≤ side_sum f y (count_of x.counts) 0 → count_of x.counts r + x.mark ≤ x.k
    by true l = omega (arith, traced.total)
    by false l = omega (arith, traced.total)

-- a vector within ±k, with k at most the cap, is in the range of the search for a failing row
pub in_range_search : (k n : ℕ) (ws : List ℤ) (th : ℤ) → k ≤ cap → in_range k n ws th ≡ true → in_range weight_limit 8 ws th ≡ true
in_range_search k n ws th h e =
    let g = (in_range_correct k n ws th).0 e in
    (in_range_correct weight_limit 8 ws th).1
    record {
      threshold = omega (arith, g.threshold);
      places = λ place l. rw (lt-ltb place 8 l) (omega (arith, in_range_at g place l));
    }

-- an array without counts from a row on has none from there on
pub past_none : (rows : ℕ) (counts : List ℕ) → all_at_most 0 (drop rows counts) ≡ true → (r : ℕ) → rows ≤ r → count_of counts r ≡ 0
past_none rows counts e r h =
    let d = r - rows in
    let there : rows + d ≡ r = omega arith in
    let count = get_or-drop rows counts d 0 ∙ ap (count_of counts) there in
    omega (arith, all_at_most_at 0 (drop rows counts) e d)

module _ {f : Function} {x : State} (s : Sound f x) where
  -- what a stage asks, of a state in that stage
  pub sound_in_lem : (stage : Stage) → x.stage ≡ stage → SoundIn f stage x
  sound_in_lem stage e = subst (λ (y : Stage). SoundIn f y x) e s.staged

  -- v and s lie within ±(top × K), and their places past n hold 0
  pub sound_current : InRange (f.top * x.k) f.places x.v.a x.v.b
  sound_current = (in_range_correct (f.top * x.k) f.places x.v.a x.v.b).0 s.current

  pub sound_copied : InRange (f.top * x.k) f.places x.s.a x.s.b
  sound_copied = (in_range_correct (f.top * x.k) f.places x.s.a x.s.b).0 s.copied

  -- a state that is not binate is traced
  pub sound_traced : x.stage ≢ Binate → Traced f x
  sound_traced n = by x.stage n s.staged
    where
      by : (stage : Stage) → stage ≢ Binate → SoundIn f stage x → Traced f x
      by Open n p = p.0
      by Found n p = p.0
      by Looped n p = p.0
      by Binate n p = absurd (n refl)

  -- what is past the rows has no count
  pub sound_past : (r : ℕ) → rows f ≤ r → get_or x.counts r 0 ≡ 0
  sound_past = past_none (rows f) x.counts s.past

  -- each count of a state that is not binate is at most K
  pub sound_count : x.stage ≢ Binate → (r : ℕ) → get_or x.counts r 0 ≤ x.k
  sound_count n r = by (dec_le (rows f) r)
    where
      by : Dec (rows f ≤ r) → get_or x.counts r 0 ≤ x.k
      by (yes h) = omega (arith, sound_past r h)
      by (no h) = omega (arith, traced_count (sound_traced n) r (omega arith))

-- where the top level is 1, v and s lie within ±K
module _ {f : Function} (one : f.top ≡ 1) {x : State} (s : Sound f x) where
  unit : f.top * x.k ≡ x.k
  unit = ap (λ (top : ℕ). top * x.k) one ∙ one-mul x.k

  pub unit_current : Ranged x.k f.places x.v
  unit_current = subst (λ (limit : ℕ). Ranged limit f.places x.v) unit s.current

  pub unit_copied : Ranged x.k f.places x.s
  unit_copied = subst (λ (limit : ℕ). Ranged limit f.places x.s) unit s.copied
