-- What the job of a record has found within a budget, as numbers (docs/FORMAT.md, "Calls"). Definitions only. Assumes nothing.
use Rattle.std.specs.Prelude.{List, ℕ, Ok, Err}
use Rattle.types.specs.declared.gate.Gate.{Gate}
use Rattle.refusal.specs.Refusal.{Answered, and_then}
use Rattle.job.specs.declared.job.Job.{Job}
use Rattle.job.specs.Machine.{fresh}
use Rattle.records.specs.declared.record.Record.{Record}
use Rattle.records.specs.declared.record.Record.TheVariants as Record'
use Rattle.types.specs.declared.refusal.Refusal.TheVariants as Refusal'
use Rattle.records.specs.Record.{read_record}
use Rattle.handed.specs.Handed.{Handed, taken_after}
use Rattle.findings.specs.Findings.{gate_found, counts_found}

-- the fresh job of a table (kinds 1 and 5), or an open job (kinds 4 and 6)
abbrev pub job_in : Record → Answered Job
job_in (Record'.Table t) = Ok (fresh t)
job_in (Record'.Gate t g) = Err Refusal'.OtherKind
job_in (Record'.Witness t w) = Err Refusal'.OtherKind
job_in (Record'.Job j) = Ok j

abbrev pub job_for : List ℕ → Answered Job
job_for s = and_then (read_record s) job_in

-- the gate that its job has found, carried on by the budget: 10, 11, 105, 12
abbrev pub find_gate : List ℕ → ℕ → ℕ → Answered (Handed Gate)
find_gate s budget room = and_then (job_for s) (taken_after budget (gate_found room))

-- the counts of the witness that it has ended with: 10, 11, 105, 12
abbrev pub find_witness : List ℕ → ℕ → ℕ → Answered (Handed (List ℕ))
find_witness s budget room = and_then (job_for s) (taken_after budget (counts_found room))
