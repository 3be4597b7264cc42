-- Laws of the stepping machine: the choices of a step by their cases, what a step keeps, the fresh job, and runs.
-- Proofs about the machine cite these and leave the definitions shut. Assumes nothing.
use mathlib.Core.Path.{◌≡◌, refl, sym, ◌∙◌, ap}
use mathlib.Core.Logic.{◌≢◌}
use mathlib.Core.Bool.{Bool, true, false}
use Rattle.std.specs.Prelude.{Option, Some, None}
use Prim.Native.Nat.{ℕ, zero, suc, ◌+◌, ◌-◌, ◌≤◌}
use native.Mathlib.Nat.{zero-add, suc-add}
use native.Mathlib.Omega.{arith}
use lib.Dec.{eqb}
use Rattle.function.specs.Witness.{one_more, zeros}
use Rattle.numbers.proofs.TestLaws.{no_true}
use Rattle.types.specs.declared.state.State.{State}
use Rattle.types.specs.declared.stage.Stage.{Stage}
use Rattle.types.specs.declared.stage.Stage.TheVariants.{Open, Found, Looped, Binate}
use Rattle.function.specs.Function.{Function, levels}
use Rattle.function.specs.Failing.{failing}
use Rattle.function.specs.Vector.{corrected_by, same_vector, zero_vector}
use Rattle.function.specs.Binate.{binate_place, binate_counts}
use Rattle.state.specs.Machine.{start_state, start_stage, fresh_by, fresh, with_stage, mark_if, marked, settle_by, corrected, settled, close_if, closed, step_by, step_in, step, run, is_ended}
use Rattle.numbers.specs.Power.{highest}

-- ---- step 4, and the ends

-- step 4: at a power of two the mark is set
pub marked_power : (x : State) → eqb (highest x.k) x.k ≡ true → marked x ≡ mark_if true x
unfolding marked
marked_power x e = ap (λ (b : Bool). mark_if b x) e

-- at any other K the state is as it was
pub marked_other : (x : State) → eqb (highest x.k) x.k ≡ false → marked x ≡ x
unfolding marked
marked_other x e = ap (λ (b : Bool). mark_if b x) e

-- the other stages are ends
pub found_ended : Found ≢ Open
found_ended e = let z : ◌≡◌ {A = ℕ} 0 1 = cc in omega arith

pub looped_ended : Looped ≢ Open
looped_ended e = let z : ◌≡◌ {A = ℕ} 0 1 = cc in omega arith

pub binate_ended : Binate ≢ Open
binate_ended e = let z : ◌≡◌ {A = ℕ} 0 1 = cc in omega arith

-- a stage is open, or an end
pub open_or_ended : (stage : Stage) → Dec (stage ≡ Open)
open_or_ended Open = yes refl
open_or_ended Found = no found_ended
open_or_ended Looped = no looped_ended
open_or_ended Binate = no binate_ended

-- the test of an end, both ways
pub open_stage : (stage : Stage) → is_ended stage ≡ false → stage ≡ Open
open_stage Open e = refl
open_stage Found e = absurd (no_true (sym e))
open_stage Looped e = absurd (no_true (sym e))
open_stage Binate e = absurd (no_true (sym e))

pub ended_stage : (stage : Stage) → is_ended stage ≡ true → stage ≢ Open
ended_stage stage e is = no_true (sym (ap is_ended is) ∙ e)

settle_keeps : (o : Option ℕ) (x : State) → (settle_by o x).k ≡ x.k
settle_keeps None x = refl
settle_keeps (Some r) x = refl

mark_keeps : (b : Bool) (x : State) → (mark_if b x).k ≡ x.k
mark_keeps true x = refl
mark_keeps false x = refl

module _ (f : Function) where
  -- ---- the fresh state

  -- without a binate input it is open where a row fails, without counts
  pub fresh_open : (r : ℕ) → binate_place f ≡ None → failing f zero_vector ≡ Some r → fresh f ≡ start_state zeros Open
  unfolding fresh
  fresh_open r e g = ap (fresh_by f) e ∙ ap (λ (o : Option ℕ). start_state zeros (start_stage o)) g

  -- and found where none does
  pub fresh_found : binate_place f ≡ None → failing f zero_vector ≡ None → fresh f ≡ start_state zeros Found
  unfolding fresh
  fresh_found e g = ap (fresh_by f) e ∙ ap (λ (o : Option ℕ). start_state zeros (start_stage o)) g

  -- with one it is binate, with the counts of the lowest binate input
  pub fresh_binate : (place : ℕ) → binate_place f ≡ Some place → fresh f ≡ start_state (binate_counts f place) Binate
  unfolding fresh
  fresh_binate place e = ap (fresh_by f) e

  fresh_by_k : (o : Option ℕ) → (fresh_by f o).k ≡ 0
  fresh_by_k None = refl
  fresh_by_k (Some place) = refl

  -- its K is 0
  pub fresh_k : (fresh f).k ≡ 0
  unfolding fresh
  fresh_k = fresh_by_k (binate_place f)

  -- ---- the choices of a step

  -- steps 1 and 2: the state after the correction by a row
  pub corrected_is : (r : ℕ) (x : State)
      → corrected f r x
      ≡ record {
        k = x.k + 1;
        v = corrected_by (f.value r) (levels f r) x.v;
        mark = x.mark;
        s = x.s;
        counts = one_more r x.counts;
        stage = x.stage;
      }
  unfolding corrected
  corrected_is r x = refl

  -- step 3: with v = s the stage is looped
  pub closed_looped : (x : State) → same_vector x.v x.s ≡ true → closed f x ≡ with_stage Looped x
  unfolding closed
  closed_looped x e = ap (λ (b : Bool). close_if f b x) e

  -- otherwise the step goes on to 4 and 5
  pub closed_on : (x : State) → same_vector x.v x.s ≡ false → closed f x ≡ settled f (marked x)
  unfolding closed
  closed_on x e = ap (λ (b : Bool). close_if f b x) e

  -- step 5: where no row fails the stage is found
  pub settled_found : (x : State) → failing f x.v ≡ None → settled f x ≡ with_stage Found x
  unfolding settled
  settled_found x e = ap (λ (o : Option ℕ). settle_by o x) e

  -- where one fails the state is as it was
  pub settled_open : (x : State) (r : ℕ) → failing f x.v ≡ Some r → settled f x ≡ x
  unfolding settled
  settled_open x r e = ap (λ (o : Option ℕ). settle_by o x) e

  -- ---- a step

  -- a step of an open job is a correction by the lowest failing row, and what follows it
  pub step_open : (x : State) (r : ℕ) → x.stage ≡ Open → failing f x.v ≡ Some r → step f x ≡ closed f (corrected f r x)
  unfolding step step_in
  step_open x r s e = ap (λ (stage : Stage). step_in f stage x) s ∙ ap (λ (o : Option ℕ). step_by f o x) e

  -- an open job without a failing row steps no more
  pub step_none : (x : State) → x.stage ≡ Open → failing f x.v ≡ None → step f x ≡ x
  unfolding step step_in
  step_none x s e = ap (λ (stage : Stage). step_in f stage x) s ∙ ap (λ (o : Option ℕ). step_by f o x) e

  step_in_ended : (stage : Stage) (x : State) → stage ≢ Open → step_in f stage x ≡ x
  unfolding step_in
  step_in_ended Open x h = absurd (h refl)
  step_in_ended Found x h = refl
  step_in_ended Looped x h = refl
  step_in_ended Binate x h = refl

  -- nor does an ended job
  pub step_ended : (x : State) → x.stage ≢ Open → step f x ≡ x
  unfolding step
  step_ended x h = step_in_ended x.stage x h

  -- ---- K in a step

  close_keeps : (b : Bool) (x : State) → (close_if f b x).k ≡ x.k
  unfolding settled marked
  close_keeps true x = refl
  close_keeps false x = settle_keeps (failing f (marked x).v) (marked x) ∙ mark_keeps (eqb (highest x.k) x.k) x

  -- steps 3 to 5 keep K
  pub closed_keeps : (x : State) → (closed f x).k ≡ x.k
  unfolding closed
  closed_keeps x = close_keeps (same_vector x.v x.s) x

  -- a step of an open job with a failing row adds 1 to K
  pub step_k : (x : State) (r : ℕ) → x.stage ≡ Open → failing f x.v ≡ Some r → (step f x).k ≡ x.k + 1
  step_k x r s e = rw (step_open x r s e, closed_keeps (corrected f r x), corrected_is r x)

  step_by_growth : (o : Option ℕ) (x : State) → (step_by f o x).k ≤ x.k + 1
  unfolding corrected
  step_by_growth None x = omega arith
  step_by_growth (Some r) x = omega (arith, closed_keeps (corrected f r x))

  step_in_growth : (stage : Stage) (x : State) → (step_in f stage x).k ≤ x.k + 1
  unfolding step_in
  step_in_growth Open x = step_by_growth (failing f x.v) x
  step_in_growth Found x = omega arith
  step_in_growth Looped x = omega arith
  step_in_growth Binate x = omega arith

  -- a step adds at most 1 to K
  pub step_growth : (x : State) → (step f x).k ≤ x.k + 1
  unfolding step
  step_growth x = step_in_growth x.stage x

  -- ---- runs

  -- no step
  pub run_zero : (x : State) → run f 0 x ≡ x
  unfolding run
  run_zero x = refl

  -- one step, and then the others
  pub run_next : (m : ℕ) (x : State) → run f (suc m) x ≡ run f m (step f x)
  unfolding run
  run_next m x = refl

  -- the others, and then one step
  pub run_suc : (m : ℕ) (x : State) → run f (suc m) x ≡ step f (run f m x)
  run_suc zero x = run_next 0 x ∙ run_zero (step f x) ∙ ap (step f) (sym (run_zero x))
  run_suc (suc m) x = run_next (suc m) x ∙ run_suc m (step f x) ∙ ap (step f) (sym (run_next m x))

  -- a run is a run after a run
  pub run_add : (m n : ℕ) (x : State) → run f (m + n) x ≡ run f n (run f m x)
  run_add zero n x = rw (zero-add n, run_zero x)
  run_add (suc m) n x = rw (suc-add m n, run_next (m + n) x, run_next m x) (run_add m n (step f x))

  -- a run of an ended job is the job
  pub run_ended : (m : ℕ) (x : State) → x.stage ≢ Open → run f m x ≡ x
  run_ended zero x h = run_zero x
  run_ended (suc m) x h = run_next m x ∙ ap (run f m) (step_ended x h) ∙ run_ended m x h

  -- a job that is open after a run was open before it
  pub run_was_open : (m : ℕ) (x : State) → (run f m x).stage ≡ Open → x.stage ≡ Open
  run_was_open m x e = by (open_or_ended x.stage)
    where
      by : Dec (x.stage ≡ Open) → x.stage ≡ Open
      by (yes g) = g
      by (no g) = absurd (g (sym (ap (λ (i : State). i.stage) (run_ended m x g)) ∙ e))

  -- a state that has ended stays as it is for the rest of a budget
  pub run_stays : (start end : State) (m budget : ℕ) → m ≤ budget → end ≡ run f m start → end.stage ≢ Open → end ≡ run f budget start
  run_stays start end m budget h e n =
      let parts : budget ≡ m + (budget - m) = omega arith in
      sym (ap (λ (b : ℕ). run f b start) parts ∙ run_add m (budget - m) start ∙ ap (run f (budget - m)) (sym e) ∙ run_ended (budget - m) end n)
