-- A step of a sound job is sound. `Common` is what the stages open, found and looped ask alike; a correction and the mark keep it, and with
-- it each end of a step has only its mark and its stage left to show. Assumes nothing.
use mathlib.Core.Path.{◌≡◌, refl, sym, ◌∙◌, ap, subst}
use mathlib.Core.Bool.{Bool, true, false}
use Rattle.std.specs.Prelude.{Option, Some, None}
use Prim.Native.Nat.{ℕ, zero, suc, ◌+◌, ◌-◌, ◌*◌, ◌≤◌, ◌<◌}
use native.Mathlib.Nat.{mul-add}
use native.Mathlib.Omega.{arith}
use lib.Dec.{eqb}
use lib.ListN.{length, drop, length-replicate, length-drop, get_or-replicate}
use lib.Seq.{drop-set-lt, get_or-drop}
use lib.IntN.{ℤ, pos, negsuc, nat_abs, ◌-ℤ◌}
use borrow.Author.Tests.{eqb-true}
use Rattle.numbers.specs.Tests.{all_at_most}
use Rattle.numbers.proofs.Int.{integers, parts_sub, nat_abs_parts}
use Rattle.numbers.proofs.TestLaws.{no_true, all_at_most_from}
use Rattle.types.specs.declared.vector.Vector.{Vector}
use Rattle.types.specs.declared.state.State.{State}
use Rattle.types.specs.declared.stage.Stage.{Stage}
use Rattle.types.specs.declared.stage.Stage.TheVariants.{Open, Found, Looped}
use Rattle.function.specs.Function.{Function, levels, rows, Fits}
use Rattle.function.specs.Witness.{count_of, zeros}
use Rattle.function.specs.Failing.{failing}
use Rattle.function.specs.Vector.{sign, same_vector}
use Rattle.state.specs.Machine.{corrected, with_stage, mark_if, marked, settled, closed, step}
use Rattle.numbers.specs.Power.{highest}
use Rattle.state.specs.Sound.{cap, Shaped, Traced, NotBinate, mark_for, SoundIn, Sound}
use Rattle.numbers.proofs.PowerLaws.{highest_suc}
use Rattle.function.proofs.FunctionLaws.{level_below, level_none, cared_apart}
use Rattle.function.proofs.VectorLaws.{same_vector_correct, corrected_threshold, length_corrected}
use Rattle.function.proofs.CountLaws.{length_one_more, one_more_other, get_d_zeros}
use Rattle.function.proofs.RangeLaws.{InRange, in_range_correct, in_range_wider, corrected_in_range}
use Rattle.state.proofs.SoundBounds.{sound_in_lem, sound_current, sound_copied}
use Rattle.function.proofs.FailingLaws.{failing_some, fails_cared}
use Rattle.state.proofs.MachineLaws.{corrected_is, closed_looped, closed_on, marked_power, marked_other, settled_found, settled_open, step_open}
use Rattle.state.proofs.TraceLaws.{corrected_traced, marked_traced}

-- a job put into the stage where it stands is the job
pub with_stage_same : (stage : Stage) (x : State) → x.stage ≡ stage → with_stage stage x ≡ x
with_stage_same stage x e = λ i. record { k = x.k; v = x.v; mark = x.mark; s = x.s; counts = x.counts; stage = sym e i }

-- counts that are all 0 are 0 past the rows
pub zeros_past : (m : ℕ) → all_at_most 0 (drop m zeros) ≡ true
zeros_past m = all_at_most_from 0 (drop m zeros) (λ i h. omega (arith, get_or-drop m zeros i 0, get_or-replicate {A = ℕ} 256 (m + i) 0 0 (inside i h)))
  where
    inside : (i : ℕ) → i < length (drop m zeros) → m + i < 256
    inside i h = omega (arith, length-drop m zeros, length-replicate {A = ℕ} 256 0)

-- a correction moves a threshold that is 0
threshold_moved : (b s : ℤ) (y : Bool) → nat_abs b ≤ 0 → nat_abs s ≤ 0 → b -ℤ sign y ≡ s → ⊥
threshold_moved b s true h l e = omega (integers, nat_abs_parts b, nat_abs_parts s, parts_sub b (pos 1))
threshold_moved b s false h l e = omega (integers, nat_abs_parts b, nat_abs_parts s, parts_sub b (negsuc 0))

module _ (f : Function) where
  -- what the stages open, found and looped ask alike
  pub record Common (x : State) : Type 0 where
    pub shaped : Shaped x
    pub capped : x.k ≤ cap
    pub current : InRange (f.top * x.k) f.places x.v.a x.v.b
    pub copied : InRange (f.top * x.k) f.places x.s.a x.s.b
    pub cared : (r : ℕ) → f.cared r ≡ false → count_of x.counts r ≡ 0
    pub past : all_at_most 0 (drop (rows f) x.counts) ≡ true
    pub traced : Traced f x
    pub unate : NotBinate f

  -- a sound open job has what the stages ask alike
  common : (x : State) → Sound f x → x.stage ≡ Open → Common x
  common x s e =
      let p = sound_in_lem s Open e in
      record {
        shaped = s.shaped;
        capped = s.capped;
        current = sound_current s;
        copied = sound_copied s;
        cared = s.cared;
        past = s.past;
        traced = p.0;
        unate = p.1;
      }

  -- ---- the ends of a step

  -- with its mark and what the stage itself asks, such a job is sound in the stage
  pub stage_sound : (stage : Stage) (x : State) → Common x → x.mark ≡ mark_for stage x.k → (Traced f (with_stage stage x) → SoundIn f stage (with_stage stage x))
      → Sound f (with_stage stage x)
  stage_sound stage x c m says = record {
    shaped = record { weights = c.shaped.weights; copied = c.shaped.copied; counts = c.shaped.counts };
    capped = c.capped;
    current = (in_range_correct (f.top * x.k) f.places x.v.a x.v.b).1 c.current;
    copied = (in_range_correct (f.top * x.k) f.places x.s.a x.s.b).1 c.copied;
    cared = c.cared;
    past = c.past;
    mark = m;
    staged = says (record { total = c.traced.total; sum = c.traced.sum });
  }

  -- after step 5 the job is sound
  settled_sound : (x : State) → x.stage ≡ Open → Common x → x.mark ≡ highest x.k → (x.v ≡ x.s → all_at_most 0 x.counts ≡ true)
      → Sound f (settled f x)
  settled_sound x e c m differs = by (failing f x.v) refl
    where
      by : (o : Option ℕ) → failing f x.v ≡ o → Sound f (settled f x)
      by None g = subst (Sound f) (sym (settled_found f x g)) (stage_sound Found x c m (λ traced. (traced, c.unate, g)))
      by (Some r) g =
          subst (Sound f) (with_stage_same Open x e ∙ sym (settled_open f x r g)) (stage_sound Open x c m (λ traced. (traced, c.unate, (r, g), differs)))

  -- ---- the mark

  -- a job at its mark has what the stages ask alike
  marked_common : (x : State) → Common x → Common (mark_if true x)
  marked_common x c = record {
    shaped = record { weights = c.shaped.weights; copied = c.shaped.weights; counts = length-replicate {A = ℕ} 256 0 };
    capped = c.capped;
    current = c.current;
    copied = c.current;
    cared = λ r e. get_d_zeros r;
    past = zeros_past (rows f);
    traced = marked_traced f (mark_if true x) refl refl refl;
    unate = c.unate;
  }

  -- where v is not s, the job is sound after steps 4 and 5
  marked_sound : (x : State) (k : ℕ) → x.stage ≡ Open → Common x → x.k ≡ k + 1 → x.mark ≡ highest k
      → same_vector x.v x.s ≡ false → Sound f (settled f (marked x))
  marked_sound x k e c more m differs = by (eqb (highest x.k) x.k) refl
    where
      kept : eqb (highest x.k) x.k ≡ false → x.mark ≡ highest x.k
      kept g = m ∙ sym (ap highest more ∙ highest_suc k (omega (arith, c.capped)) (rw more at g))

      by : (b : Bool) → eqb (highest x.k) x.k ≡ b → Sound f (settled f (marked x))
      by true g =
          rw (marked_power x g)
          (settled_sound (mark_if true x) e (marked_common x c) (sym (eqb-true (highest x.k) x.k g)) (λ same. zeros_past 0))
      by false g =
          rw (marked_other x g) (settled_sound x e c (kept g) (λ same. absurd (no_true (sym differs ∙ (same_vector_correct x.v x.s).1 same))))

  -- the job is sound after steps 3, 4 and 5
  closed_sound : (x : State) (k : ℕ) → x.stage ≡ Open → Common x → x.k ≡ k + 1 → x.mark ≡ highest k
      → (x.v ≡ x.s → 0 < k) → Sound f (closed f x)
  closed_sound x k e c more m moved = by (same_vector x.v x.s) refl
    where
      less : k ≡ x.k - 1
      less = omega arith

      by : (b : Bool) → same_vector x.v x.s ≡ b → Sound f (closed f x)
      by true g =
          let same = (same_vector_correct x.v x.s).0 g in
          let two : 2 ≤ x.k = omega (arith, moved same) in
          rw (closed_looped f x g) (stage_sound Looped x c (m ∙ ap highest less) (λ traced. (traced, c.unate, two, same)))
      by false g = rw (closed_on f x g) (marked_sound x k e c more m g)

  -- ---- the correction

  -- a correction keeps what the stages ask alike
  corrected_common : (x : State) (r : ℕ) → Fits f → r < rows f → f.cared r ≡ true → x.k < cap → Common x → Common (corrected f r x)
  corrected_common x r n h care l c = subst Common (sym (corrected_is f r x)) (record {
    shaped = record {
      weights = length_corrected y (levels f r) x.v ∙ c.shaped.weights;
      copied = c.shaped.copied;
      counts = length_one_more r x.counts ∙ c.shaped.counts;
    };
    capped = omega arith;
    current = in_range_wider (f.top * (x.k + 1)) (omega (arith, mul-add f.top x.k 1))
        (corrected_in_range (f.top * x.k) f.top f.places y (levels f r) x.v n.leveled
        (λ place. omega (arith, level_below f.top r place))
        (λ place k. level_none f.top r place h k)
        c.shaped.weights
        c.current);
    copied = in_range_wider (f.top * (x.k + 1)) (omega (arith, mul-add f.top x.k 1)) c.copied;
    cared = λ q e. one_more_other r q x.counts (cared_apart f e care) ∙ c.cared q e;
    past = ap (all_at_most 0) (drop-set-lt (rows f) x.counts r (count_of x.counts r + 1) h) ∙ c.past;
    traced = subst (Traced f) (corrected_is f r x) (corrected_traced f x r n h c.shaped c.traced);
    unate = c.unate;
  })
    where
      y : Bool
      y = f.value r

  -- so v is not s after the first correction
  corrected_moved : (x : State) (r : ℕ) → Common x → (corrected f r x).v ≡ (corrected f r x).s → 0 < x.k
  corrected_moved x r c same = by x.k c.current.threshold c.copied.threshold
    where
      y : Bool
      y = f.value r

      threshold : x.v.b -ℤ sign y ≡ x.s.b
      threshold = sym (corrected_threshold y (levels f r) x.v) ∙ ap (λ (u : Vector). u.b) (rw (corrected_is f r x) at same)

      by : (k : ℕ) → nat_abs x.v.b ≤ f.top * k → nat_abs x.s.b ≤ f.top * k → 0 < k
      by zero h l = absurd (threshold_moved x.v.b x.s.b y (omega arith) (omega arith) threshold)
      by (suc k) h l = omega arith

  -- a step of a sound open job is sound
  pub step_sound : (x : State) → Fits f → Sound f x → x.stage ≡ Open → x.k < cap → Sound f (step f x)
  step_sound x n s e l =
      let p = sound_in_lem s Open e in
      let r = p.2.0 in
      let c = common x s e in
      let is = corrected_is f r x in
      let first = failing_some f x.v r p.2.1 in
      let row : r < rows f = omega (arith, first.inside) in
      let mark : x.mark ≡ highest x.k = s.mark ∙ ap (λ (stage : Stage). mark_for stage x.k) e in
      rw (step_open f x r e p.2.1)
      (closed_sound (corrected f r x) x.k (rw is e) (corrected_common x r n row (fails_cared f x.v r first.passes) l c) (rw is refl) (rw is mark) (corrected_moved x r c))
