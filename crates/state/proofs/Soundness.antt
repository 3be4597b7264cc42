-- The machine's jobs are sound: a run of a sound job is sound while K stays within the cap, so each job that the machine makes of a function is.
-- And K counts the steps: a run of m steps adds at most m to it, and exactly m where the job is open after it. Assumes nothing.
use mathlib.Core.Path.{◌≡◌, refl, sym, subst}
use mathlib.Core.Logic.{◌≢◌}
use mathlib.Core.Bool.{Bool, true, false}
use Rattle.std.specs.Prelude.{Option, Some, None}
use Prim.Native.Nat.{ℕ, zero, suc, ◌+◌, ◌≤◌, ◌<◌}
use native.Mathlib.Omega.{arith}
use Rattle.types.specs.declared.state.State.{State}
use Rattle.types.specs.declared.stage.Stage.{Stage}
use Rattle.types.specs.declared.stage.Stage.TheVariants.{Open, Found, Looped}
use Rattle.function.specs.Function.{Function, Fits}
use Rattle.function.specs.Failing.{failing}
use Rattle.function.specs.Vector.{same_vector}
use Rattle.state.specs.Machine.{corrected, with_stage, marked, settled, closed, step, run, fresh}
use Rattle.state.specs.Sound.{cap, Sound}
use Rattle.state.proofs.SoundBounds.{sound_in_lem}
use Rattle.state.proofs.MachineLaws.{closed_looped, closed_on, settled_found, settled_open, found_ended, looped_ended, open_or_ended, step_open, step_none, step_ended, step_growth, step_k, fresh_k, run_zero, run_next, run_was_open}
use Rattle.state.proofs.StepSound.{step_sound}
use Rattle.state.proofs.FreshSound.{fresh_sound}

module _ (f : Function) where
  -- ---- runs are sound

  -- a step of a sound job, open or ended, is sound
  pub step_any_sound : (x : State) → Fits f → Sound f x → x.k < cap → Sound f (step f x)
  step_any_sound x n s l = by (open_or_ended x.stage)
    where
      by : Dec (x.stage ≡ Open) → Sound f (step f x)
      by (yes e) = step_sound f x n s e l
      by (no e) = subst (Sound f) (sym (step_ended f x e)) s

  -- a run of a sound job is sound, as long as K cannot pass the cap
  pub run_sound_from : (x : State) → Fits f → Sound f x → (m : ℕ) → x.k + m ≤ cap → Sound f (run f m x)
  run_sound_from x n s zero l = subst (Sound f) (sym (run_zero f x)) s
  run_sound_from x n s (suc m) l =
      subst (Sound f) (sym (run_next f m x)) (run_sound_from (step f x) n (step_any_sound x n s (omega arith)) m (omega (arith, step_growth f x)))

  -- so is each that the machine makes of a function
  pub run_sound : Fits f → (m : ℕ) → m ≤ cap → Sound f (run f m (fresh f))
  run_sound n m l = run_sound_from (fresh f) n (fresh_sound f) m (omega (arith, fresh_k f))

  -- ---- K counts the steps

  -- a run of m steps adds at most m to K
  pub run_growth : (x : State) (m : ℕ) → (run f m x).k ≤ x.k + m
  run_growth x zero = rw (run_zero f x) (omega arith)
  run_growth x (suc m) = rw (run_next f m x) (omega (arith, run_growth (step f x) m, step_growth f x))

  -- a step never lowers K
  step_grows : (x : State) → x.k ≤ (step f x).k
  step_grows x = by (open_or_ended x.stage)
    where
      at_row : (o : Option ℕ) → x.stage ≡ Open → failing f x.v ≡ o → x.k ≤ (step f x).k
      at_row None e q = rw (step_none f x e q) (omega arith)
      at_row (Some r) e q = omega (arith, step_k f x r e q)

      by : Dec (x.stage ≡ Open) → x.k ≤ (step f x).k
      by (yes e) = at_row (failing f x.v) e refl
      by (no h) = rw (step_ended f x h) (omega arith)

  -- nor does a run
  pub run_grows : (x : State) (m : ℕ) → x.k ≤ (run f m x).k
  run_grows x zero = rw (run_zero f x) (omega arith)
  run_grows x (suc m) = rw (run_next f m x) (omega (arith, step_grows x, run_grows (step f x) m))

  -- an open job has a failing row to be corrected by
  abbrev pub Goes : State → Type 0
  Goes x = x.stage ≡ Open → (r : ℕ) × (failing f x.v ≡ Some r)

  -- a sound job goes
  pub sound_goes : (x : State) → Sound f x → Goes x
  sound_goes x s e = (sound_in_lem s Open e).2

  ended_goes : (stage : Stage) (x : State) → stage ≢ Open → Goes (with_stage stage x)
  ended_goes stage x n e = absurd (n e)

  settled_goes : (x : State) → Goes (settled f x)
  settled_goes x = by (failing f x.v) refl
    where
      by : (o : Option ℕ) → failing f x.v ≡ o → Goes (settled f x)
      by None q = subst Goes (sym (settled_found f x q)) (ended_goes Found x found_ended)
      by (Some r) q = subst Goes (sym (settled_open f x r q)) (λ e. (r, q))

  closed_goes : (x : State) → Goes (closed f x)
  closed_goes x = by (same_vector x.v x.s) refl
    where
      by : (b : Bool) → same_vector x.v x.s ≡ b → Goes (closed f x)
      by true q = subst Goes (sym (closed_looped f x q)) (ended_goes Looped x looped_ended)
      by false q = subst Goes (sym (closed_on f x q)) (settled_goes (marked x))

  -- after a step of a job that goes, the job goes
  pub step_goes : (x : State) → Goes x → Goes (step f x)
  step_goes x g = by (open_or_ended x.stage)
    where
      by : Dec (x.stage ≡ Open) → Goes (step f x)
      by (yes e) = subst Goes (sym (step_open f x (g e).0 e (g e).1)) (closed_goes (corrected f (g e).0 x))
      by (no e) = subst Goes (sym (step_ended f x e)) g

  -- where the job is open after m steps, K has grown by m
  pub run_growth_open : (x : State) → Goes x → (m : ℕ) → (run f m x).stage ≡ Open → (run f m x).k ≡ x.k + m
  run_growth_open x g zero e = rw (run_zero f x) (omega arith)
  run_growth_open x g (suc m) e =
      let was = g (run_was_open f (suc m) x e) in
      let later = run_growth_open (step f x) (step_goes x g) m (rw (run_next f m x) at e) in
      rw (run_next f m x) (omega (arith, step_k f x was.0 (run_was_open f (suc m) x e) was.1))
