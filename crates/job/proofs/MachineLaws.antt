-- Laws of the stepping machine on a job: those of its state (`state`), and that the table stays. Assumes nothing.
use Rattle.std.specs.Prelude.{◌≡◌, ℕ, ◌+◌, ◌≢◌}
use mathlib.Core.Path.{refl}
use Rattle.types.specs.declared.table.Table.{Table}
use Rattle.types.specs.declared.stage.Stage.TheVariants.{Open}
use Rattle.state.proofs.MachineLaws as state
use Rattle.job.specs.declared.job.Job.{Job}
use Rattle.job.specs.Machine.{fresh, run}
use Rattle.table.specs.Table.{function_of}
pub use Rattle.state.proofs.MachineLaws.{found_ended, looped_ended, binate_ended, open_or_ended, open_stage}

-- ---- the fresh job

-- it is about the table, and K is 0
pub fresh_table : (t : Table) → (fresh t).table ≡ t
unfolding fresh
fresh_table t = refl

pub fresh_k : (t : Table) → (fresh t).state.k ≡ 0
unfolding fresh
fresh_k t = state.fresh_k (function_of t)

-- ---- runs

-- a run keeps the table
pub run_table : (m : ℕ) (j : Job) → (run m j).table ≡ j.table
unfolding run
run_table m j = refl

-- no step
pub run_zero : (j : Job) → run 0 j ≡ j
unfolding run
run_zero j = λ i. record { table = j.table; state = state.run_zero (function_of j.table) j.state i }

-- a run is a run after a run
pub run_add : (m n : ℕ) (j : Job) → run (m + n) j ≡ run n (run m j)
unfolding run
run_add m n j = λ i. record { table = j.table; state = state.run_add (function_of j.table) m n j.state i }

-- a run of an ended job is the job
pub run_ended : (m : ℕ) (j : Job) → j.state.stage ≢ Open → run m j ≡ j
unfolding run
run_ended m j h = λ i. record { table = j.table; state = state.run_ended (function_of j.table) m j.state h i }
