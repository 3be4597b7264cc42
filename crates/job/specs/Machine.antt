-- The stepping machine on a job, which is a table with the machine's state on it (document 01, "The stepping machine"). Definitions only.
-- Assumes nothing.
use Rattle.std.specs.Prelude.{ℕ, List}
use Rattle.types.specs.declared.table.Table.{Table}
use Rattle.types.specs.declared.stage.Stage.{Stage}
use Rattle.state.specs.Machine as machine
use Rattle.job.specs.declared.job.Job.{Job}
use Rattle.table.specs.Table.{function_of}

-- all numbers 0 but the counts
abbrev pub start_job : Table → List ℕ → Stage → Job
start_job t counts stage = record { table = t; state = machine.start_state counts stage }

-- the fresh job of a table
unfoldable pub fresh : Table → Job
fresh t = record { table = t; state = machine.fresh (function_of t) }

-- the job after a step
unfoldable pub step : Job → Job
step j = record { table = j.table; state = machine.step (function_of j.table) j.state }

-- the job after m steps
unfoldable pub run : ℕ → Job → Job
run m j = record { table = j.table; state = machine.run (function_of j.table) m j.state }

-- the job of a table after one carry-on of the whole call budget
abbrev pub decided : Table → Job
decided t = run machine.call_budget (fresh t)
