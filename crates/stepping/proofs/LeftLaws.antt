-- The steps of a budget in parts: the state is the machine's after the steps that are made, and some are left. Assumes nothing.
use Rattle.std.specs.Prelude.{◌≡◌, ℕ, ◌+◌, ◌-◌, ◌≤◌, ◌≢◌}
use mathlib.Core.Path.{sym, ◌∙◌, ap, subst}
use native.Mathlib.Omega.{arith}
use Rattle.types.specs.declared.table.Table.{Table}
use Rattle.types.specs.declared.stage.Stage.TheVariants as Stage'
use Rattle.types.specs.declared.state.State.{State}
use Rattle.state.specs.Machine.{run}
use Rattle.state.specs.Sound.{cap, Sound}
use Rattle.state.proofs.MachineLaws.{run_zero, run_add, run_stays}
use Rattle.state.proofs.Soundness.{run_sound_from, run_growth}
use Rattle.table.proofs.TableLaws.{table_fits}
use Rattle.table.specs.Table.{function_of}

-- x is the state after the budget's steps but for those that are left
pub record Left (t : Table) (start : State) (budget : ℕ) (x : State) (left : ℕ) : Type 0 where
  pub within : left ≤ budget
  pub machine : x ≡ run (function_of t) (budget - left) start

-- before the first step all are left
pub left_start : {t : Table} (x : State) (budget : ℕ) → Left t x budget x budget
left_start {t} x budget = record { within = omega arith; machine = sym (run_zero (function_of t) x) ∙ ap (λ (m : ℕ). run (function_of t) m x) (omega arith) }

module _ {t : Table} {start : State} {budget : ℕ} {x : State} {left : ℕ} (l : Left t start budget x left) where
  -- with nothing left, or at its end, it is the machine's after all of them
  pub left_none : left ≡ 0 → x ≡ run (function_of t) budget start
  left_none gone = l.machine ∙ ap (λ (m : ℕ). run (function_of t) m start) (omega arith)

  pub left_ended : x.stage ≢ Stage'.Open → x ≡ run (function_of t) budget start
  left_ended n = run_stays (function_of t) start x (budget - left) budget (omega arith) l.machine n

  -- r is the state after a part of what is left
  pub left_next : {r : State} {part : ℕ} → part ≤ left → r ≡ run (function_of t) part x → Left t start budget r (left - part)
  left_next {part = part} h made =
      let sum : budget - left + part ≡ budget - (left - part) = omega (arith, l.within) in
      record {
        within = omega (arith, l.within);
        machine = made ∙ ap (run (function_of t) part) l.machine ∙ sym (run_add (function_of t) (budget - left) part start) ∙ ap (λ (m : ℕ). run (function_of t) m start) sum;
      }

  -- it has the bounds of the machine's state
  module _ (inputs : t.n ≤ 8) (sound : Sound (function_of t) start) (capped : start.k + budget ≤ cap) where
    pub left_sound : Sound (function_of t) x
    left_sound = subst (Sound (function_of t)) (sym l.machine) (run_sound_from (function_of t) start (table_fits t inputs) sound (budget - left) (omega (arith, capped)))

    pub left_capped : x.k + left ≤ cap
    left_capped = omega (arith, capped, l.within, run_growth (function_of t) start (budget - left), ap (λ (i : State). i.k) l.machine)
