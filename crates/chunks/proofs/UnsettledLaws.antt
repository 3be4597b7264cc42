-- A loop that searches ahead, beside the machine: its state is the machine's after so many steps but for step 5: its search is made, and the
-- stage that follows from it is not set yet. One pass of the loop is one step of the machine, and the ranges of the machine's state, which
-- is sound, are those of the loop's, since a stage changes none of them. Assumes nothing.
use Rattle.std.specs.Prelude.{◌≡◌, ℕ, ◌+◌, ◌<◌, ◌≤◌, Bool, true, false, eqb, ◌≢◌, get_or}
use mathlib.Core.Path.{refl, sym, ◌∙◌, ap, subst}
use Rattle.std.specs.Prelude.{Option, Some, None}
use native.Mathlib.Numerals.{add-one}
use native.Mathlib.Omega.{arith}
use Rattle.table.specs.Table.{rows, value, function_of}
use Rattle.table.specs.Gate.{weight_limit, in_range}
use Rattle.table.proofs.TableLaws.{table_fits}
use Rattle.types.specs.declared.table.Table.{Table}
use Rattle.types.specs.declared.vector.Vector.{Vector}
use Rattle.function.specs.Failing.{failing}
use Rattle.function.specs.Vector.{corrected_by, same_vector}
use Rattle.function.specs.Witness.{one_more}
use Rattle.numbers.specs.Power.{highest}
use Rattle.function.proofs.FailingLaws.{failing_some}
use Rattle.types.specs.declared.state.State.{State}
use Rattle.types.specs.declared.stage.Stage.{Stage}
use Rattle.types.specs.declared.stage.Stage.TheVariants as Stage'
use Rattle.state.specs.Machine.{with_stage, mark_if, marked, settled, closed, step, run}
use Rattle.state.specs.Sound.{cap, Shaped, Ranged, Sound}
use Rattle.state.proofs.MachineLaws.{corrected_is, closed_looped, closed_on, settled_found, settled_open, found_ended, looped_ended, binate_ended, step_open, run_zero, run_suc, run_stays}
use Rattle.state.proofs.SoundBounds.{in_range_search, unit_current, unit_copied, sound_in_lem, sound_past, sound_count}
use Rattle.state.proofs.Soundness.{run_sound_from}
use Rattle.function.specs.Function.{level}

-- ---- the loop's state

-- x is the machine's state after m steps from `start`, but for step 5: its stage is still open
pub record Unsettled (t : Table) (start : State) (m : ℕ) (x : State) : Type 0 where
  pub stage : x.stage ≡ Stage'.Open
  pub machine : settled (function_of t) x ≡ run (function_of t) m start

-- a sound open state is so at its start
pub unsettled_start : {t : Table} {x : State} → Sound (function_of t) x → x.stage ≡ Stage'.Open → Unsettled t x 0 x
unsettled_start {t} {x} s e =
    let fails = (sound_in_lem s Stage'.Open e).2 in
    record { stage = e; machine = settled_open (function_of t) x fails.0 fails.1 ∙ sym (run_zero (function_of t) x) }

-- step 4 keeps the stage
marked_keeps : (x : State) → (marked x).stage ≡ x.stage
unfolding marked
marked_keeps x = by (eqb (highest x.k) x.k)
  where
    by : (b : Bool) → (mark_if b x).stage ≡ x.stage
    by true = refl
    by false = refl

-- the state after steps 1 and 2 by row r, corrected to the vector v
abbrev pub corrected_to : ℕ → Vector → State → State
corrected_to r v x = record {
  k = x.k + 1;
  v = v;
  mark = x.mark;
  s = x.s;
  counts = one_more r x.counts;
  stage = x.stage;
}

module _ {t : Table} {start : State} {m : ℕ} {x : State} (s : Unsettled t start m x) where
  -- where no row fails, the state is found, and stays so
  pub unsettled_found : (budget : ℕ) → m ≤ budget → failing (function_of t) x.v ≡ None → with_stage Stage'.Found x ≡ run (function_of t) budget start
  unsettled_found budget h f =
      run_stays (function_of t) start (with_stage Stage'.Found x) m budget h (sym (settled_found (function_of t) x f) ∙ s.machine) found_ended

  module _ {r : ℕ} (f : failing (function_of t) x.v ≡ Some r) where
    -- a row that is found is a row of the table
    pub unsettled_row : r < rows t
    unsettled_row = omega (arith, (failing_some (function_of t) x.v r f).inside)

    -- the state is then the machine's
    pub unsettled_open : x ≡ run (function_of t) m start
    unsettled_open = sym (settled_open (function_of t) x r f) ∙ s.machine

    -- v is the vector after the correction by the row
    module _ {y : Bool} {v : Vector} (e : y ≡ value t r) (w : v ≡ corrected_by y (level 2 r) x.v) where
      -- the machine's next step is made of the state with that vector
      unsettled_step : closed (function_of t) (corrected_to r v x) ≡ run (function_of t) (m + 1) start
      unsettled_step =
          ap (closed (function_of t)) (λ i. corrected_to r (corrects i) x)
          ∙ sym (ap (closed (function_of t)) (corrected_is (function_of t) r x))
          ∙ sym (step_open (function_of t) x r s.stage f)
          ∙ ap (step (function_of t)) unsettled_open
          ∙ sym (run_suc (function_of t) m start)
          ∙ ap (λ (n : ℕ). run (function_of t) n start) (sym (add-one m))
        where
          corrects : v ≡ corrected_by (value t r) (level 2 r) x.v
          corrects = w ∙ ap (λ (b : Bool). corrected_by b (level 2 r) x.v) e

      -- back at s the state is looped, and stays so
      pub unsettled_looped : (budget : ℕ) → m < budget → same_vector v x.s ≡ true → with_stage Stage'.Looped (corrected_to r v x) ≡ run (function_of t) budget start
      unsettled_looped budget h same =
          run_stays (function_of t) start (with_stage Stage'.Looped (corrected_to r v x)) (m + 1) budget (omega arith)
          (sym (closed_looped (function_of t) (corrected_to r v x) same) ∙ unsettled_step) looped_ended

      -- elsewhere, after step 4, it is so at the next step
      pub unsettled_next : {after : State} → same_vector v x.s ≡ false → after ≡ marked (corrected_to r v x) → Unsettled t start (m + 1) after
      unsettled_next {after} differs e =
          record {
            stage = ap (λ (i : State). i.stage) e ∙ marked_keeps (corrected_to r v x) ∙ s.stage;
            machine = ap (settled (function_of t)) e ∙ sym (closed_on (function_of t) (corrected_to r v x) differs) ∙ unsettled_step;
          }

-- ---- the ranges of its state

-- what the code asks of the state: no number of it wraps in a step
pub record Bounded (t : Table) (x : State) : Type 0 where
  pub shaped : Shaped x
  pub capped : x.k ≤ cap
  pub current : Ranged x.k t.n x.v
  pub copied : Ranged x.k t.n x.s
  pub ranged : in_range weight_limit 8 x.v.a x.v.b ≡ true
  pub count : (r : ℕ) → get_or x.counts r 0 ≤ cap
  pub past : (r : ℕ) → rows t ≤ r → get_or x.counts r 0 ≡ 0

sound_bounded : {t : Table} (stage : Stage) (x : State) → stage ≢ Stage'.Binate → Sound (function_of t) (with_stage stage x) → Bounded t x
sound_bounded {t} stage x n s = record {
  shaped = record { weights = s.shaped.weights; copied = s.shaped.copied; counts = s.shaped.counts };
  capped = s.capped;
  current = unit_current refl s;
  copied = unit_copied refl s;
  ranged = in_range_search x.k t.n x.v.a x.v.b s.capped (unit_current refl s);
  count = λ r. omega (arith, sound_count s n r, s.capped);
  past = λ r h. sound_past s r h;
}

-- the loop's state has those bounds, since the machine's is sound
pub unsettled_bounded : {t : Table} {start : State} {m : ℕ} {x : State} → t.n ≤ 8 → Sound (function_of t) start → start.k + m ≤ cap → Unsettled t start m x
    → Bounded t x
unsettled_bounded {t} {start} {m} {x} n sound l s = by (failing (function_of t) x.v) refl
  where
    machine : Sound (function_of t) (settled (function_of t) x)
    machine = subst (Sound (function_of t)) (sym s.machine) (run_sound_from (function_of t) start (table_fits t n) sound m l)

    by : (o : Option ℕ) → failing (function_of t) x.v ≡ o → Bounded t x
    by None f = sound_bounded Stage'.Found x (λ e. let z : ◌≡◌ {A = ℕ} 0 1 = cc in omega arith) (subst (Sound (function_of t)) (settled_found (function_of t) x f) machine)
    by (Some r) f = sound_bounded x.stage x (λ e. binate_ended (sym e ∙ s.stage)) (subst (Sound (function_of t)) (settled_open (function_of t) x r f) machine)
