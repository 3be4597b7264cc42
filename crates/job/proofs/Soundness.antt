-- The machine's jobs are sound, and K never falls, by the laws of the state. Assumes nothing.
use Rattle.std.specs.Prelude.{◌≡◌, ℕ, ◌+◌, ◌<◌, ◌≤◌}
use Rattle.types.specs.declared.table.Table.{Table}
use Rattle.types.specs.declared.stage.Stage.TheVariants.{Open}
use Rattle.table.proofs.TableLaws.{table_fits}
use Rattle.state.proofs.StepSound as step-laws
use Rattle.state.proofs.FreshSound as fresh-laws
use Rattle.state.proofs.Soundness as state
use Rattle.job.specs.declared.job.Job.{Job}
use Rattle.job.specs.Machine.{fresh, step, run}
use Rattle.job.specs.Sound.{cap, Sound}
use Rattle.table.specs.Table.{function_of}

-- ---- runs are sound

-- the fresh job of a table of at most eight inputs is sound
pub fresh_sound : (t : Table) → t.n ≤ 8 → Sound (fresh t)
unfolding fresh
fresh_sound t n = fresh-laws.fresh_sound (function_of t)

-- a step of a sound open job is sound
pub step_sound : (j : Job) → j.table.n ≤ 8 → Sound j → j.state.stage ≡ Open → j.state.k < cap → Sound (step j)
unfolding step
step_sound j n s e l = step-laws.step_sound (function_of j.table) j.state (table_fits j.table n) s e l

-- a run of a sound job is sound, as long as K cannot pass the cap
pub run_sound_from : (j : Job) → j.table.n ≤ 8 → Sound j → (m : ℕ) → j.state.k + m ≤ cap → Sound (run m j)
unfolding run
run_sound_from j n s m l = state.run_sound_from (function_of j.table) j.state (table_fits j.table n) s m l

-- so is each job that the machine makes of a table
pub run_sound : (t : Table) → t.n ≤ 8 → (m : ℕ) → m ≤ cap → Sound (run m (fresh t))
unfolding run fresh
run_sound t n m l = state.run_sound (function_of t) (table_fits t n) m l

-- a run never lowers K
pub run_grows : (j : Job) (m : ℕ) → j.state.k ≤ (run m j).state.k
unfolding run
run_grows j m = state.run_grows (function_of j.table) j.state m
