-- The machine on a function that has a gate: it never ends without one, and once it has made n·top² + 1 times the factor of the gate in steps
-- it has found one. An open state has made a correction in each step and could make one more, which the bound on K forbids. Of a table
-- n·top² + 1 is n + 1. Assumes nothing.
use mathlib.Core.Path.{◌≡◌, refl}
use mathlib.Core.Logic.{inl, inr}
use mathlib.Core.List.{List}
use Prim.Native.Nat.{ℕ, suc, ◌+◌, ◌*◌, ◌≤◌}
use native.Mathlib.Omega.{arith}
use lib.ListN.{length}
use lib.IntN.{ℤ}
use Rattle.types.specs.declared.table.Table.{Table}
use Rattle.types.specs.declared.stage.Stage.{Stage}
use Rattle.types.specs.declared.stage.Stage.TheVariants.{Open, Found, Looped, Binate}
use Rattle.function.specs.Function.{Function, Fits}
use Rattle.function.specs.Gate.{Realises}
use Rattle.table.specs.Table.{function_of}
use Rattle.table.proofs.TableLaws.{table_fits}
use Rattle.state.specs.Machine as state
use Rattle.state.specs.Sound.{cap}
use Rattle.state.proofs.MachineLaws.{step_k, fresh_k, run_suc}
use Rattle.state.proofs.FreshSound.{fresh_sound}
use Rattle.state.proofs.Soundness.{run_sound, sound_goes, run_growth_open}
use Rattle.job.specs.Machine.{run, fresh}
use Rattle.theory.specs.Bound.{factor}
use Rattle.theory.proofs.Bound.{level_squares, corrections_bound, table_squares}
use Rattle.theory.proofs.Answers.{WithoutGate, state_excludes, EndedWithout}

module _ (f : Function) (fits : Fits f) (ws : List ℤ) (th : ℤ) (g : Realises ws th f) where
  -- on a function that some weights and threshold realise, the machine's state is neither looped nor binate
  pub state_never_without : (m : ℕ) → m ≤ cap → ¬ WithoutGate (state.run f m (state.fresh f)).stage
  state_never_without m l e = state_excludes (run_sound f fits m l) fits.rows e ws th g

  -- an open state has made fewer steps than n·top² + 1 times the factor
  pub state_open_before : length ws ≤ 8 → (m : ℕ) → m ≤ cap → (state.run f m (state.fresh f)).stage ≡ Open → suc m ≤ suc (level_squares f) * factor ws th
  state_open_before e m l o =
      let x = state.run f m (state.fresh f) in
      let (r, first) = sound_goes f x (run_sound f fits m l) o in
      let next = corrections_bound f (suc m) ws th e g in
      omega (
        arith,
        rw (run_suc f m (state.fresh f)) at next,
        step_k f x r o first,
        run_growth_open f (state.fresh f) (sound_goes f (state.fresh f) (fresh_sound f)) m o,
        fresh_k f,
      )

  -- from n·top² + 1 times the factor on, the state is found
  pub state_found_from : length ws ≤ 8 → (m : ℕ) → suc (level_squares f) * factor ws th ≤ m → m ≤ cap → (state.run f m (state.fresh f)).stage ≡ Found
  state_found_from e m h l = by (state.run f m (state.fresh f)).stage refl
    where
      by : (stage : Stage) → (state.run f m (state.fresh f)).stage ≡ stage → stage ≡ Found
      by Open o = absurd (omega (arith, state_open_before e m l o))
      by Found o = refl
      by Looped o = absurd (state_never_without m l (inl o))
      by Binate o = absurd (state_never_without m l (inr o))

-- ---- of a table

module _ (t : Table) (small : t.n ≤ 8) (ws : List ℤ) (th : ℤ) (g : Realises ws th (function_of t)) where
  -- on a table that some weights and threshold realise, the machine's job is neither looped nor binate
  pub never_without : (m : ℕ) → m ≤ cap → ¬ EndedWithout (run m (fresh t))
  unfolding run fresh
  never_without = state_never_without (function_of t) (table_fits t small) ws th g

  -- from n + 1 times the factor on, the job is found
  pub found_from : length ws ≡ t.n → (m : ℕ) → (t.n + 1) * factor ws th ≤ m → m ≤ cap → (run m (fresh t)).state.stage ≡ Found
  unfolding run fresh
  found_from e m h l = state_found_from (function_of t) (table_fits t small) ws th g (omega arith) m (rw (table_squares t) h) l
