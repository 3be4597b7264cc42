-- The calls that show a job: for each its rules in their order, and its answer (document 01, "The stepping machine" and "Who causes which
-- number"). Definitions only. Assumes nothing.
use Rattle.std.specs.Prelude.{Bool, [], ◌∷◌, ℕ, Ok}
use Rattle.refusal.specs.Refusal.{Answered, checked}
use Rattle.cell.specs.Calls.{past_rows}
use Rattle.function.specs.Failing.{fails}
use Rattle.job.specs.declared.job.Job.{Job}
use Rattle.types.specs.declared.stage.Stage.{Stage}
use Rattle.types.specs.declared.stage.Stage.TheVariants.{Open, Found, Looped, Binate}
use Rattle.job.specs.Calls.{job_rules, gate_of, witness_of}
use Rattle.view.specs.declared.shown.Verdict.TheVariants as Verdict'
use Rattle.view.specs.declared.shown.Verdict.{Verdict}
use Rattle.table.specs.Table.{function_of}

-- ---- whether a row fails in a job: 2, 3, 16, 9, 14

abbrev pub row_fails : Job → ℕ → Answered Bool
row_fails j r = checked (job_rules j (past_rows j.table.n r ∷ [])) (Ok (fails (function_of j.table) j.state.v r))

-- ---- what a job shows: 2, 3, 16, 9

-- a found job shows its gate, a looped or binate one its witness; an open one is given up so far
abbrev pub shown_in : Stage → Job → Verdict
shown_in Open j = Verdict'.Open
shown_in Found j = Verdict'.Gate (gate_of j)
shown_in Looped j = Verdict'.Witness (witness_of j)
shown_in Binate j = Verdict'.Witness (witness_of j)

abbrev pub show_job : Job → Answered Verdict
show_job j = checked (job_rules j []) (Ok (shown_in j.state.stage j))
