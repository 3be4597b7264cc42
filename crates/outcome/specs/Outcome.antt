-- What a job has come to, as the bytes of a record (document 01, "The stepping machine"; document 02, §3). Definitions only. Assumes nothing.
use Rattle.records.specs.declared.record.Record.TheVariants as Record'
use Rattle.types.specs.declared.refusal.Refusal.TheVariants as Refusal'
use Rattle.std.specs.Prelude.{not, ◌&&◌, List, [], ◌∷◌, ℕ}
use Rattle.types.specs.declared.table.Table.{Table}
use Rattle.types.specs.declared.state.State.{State}
use Rattle.types.specs.declared.stage.Stage.{Stage}
use Rattle.types.specs.declared.stage.Stage.TheVariants.{Open, Found, Looped, Binate}
use Rattle.table.specs.Table.{is_whole}
use Rattle.refusal.specs.Refusal.{Rule, rule, Answered, checked}
use Rattle.job.specs.declared.job.Job.{Job}
use Rattle.job.specs.Calls.{is_ended, gate_of, witness_of}
use Rattle.records.specs.declared.record.Record.{Record}
use Rattle.records.specs.Record.{record_bytes}
use Rattle.writers.specs.Calls.{fitted}

-- a job is a table with a state of the machine on it
abbrev pub job_of : Table → State → Job
job_of t x = record { table = t; state = x }

-- what a job has come to, as a record: its table with the gate found, its table with the witness, or the open job
abbrev pub outcome_in : Stage → Job → Record
outcome_in Open j = Record'.Job j
outcome_in Found j = Record'.Gate j.table (gate_of j)
outcome_in Looped j = Record'.Witness j.table (witness_of j)
outcome_in Binate j = Record'.Witness j.table (witness_of j)

-- the same by its stage
abbrev pub outcome : Job → Record
outcome j = outcome_in j.state.stage j

-- 16 (document 02, §3): a job has ended, and a row of its table is not cared for: kinds 2 and 3 carry no such table
abbrev pub uncarried : Stage → Table → Rule
uncarried stage t = rule Refusal'.Care (is_ended stage && not (is_whole t))

-- its bytes: 16, 12
abbrev pub written_in : ℕ → Stage → Job → Answered (List ℕ)
written_in room stage j = checked (uncarried stage j.table ∷ []) (fitted room (record_bytes (outcome_in stage j)))

abbrev pub outcome_written : ℕ → Job → Answered (List ℕ)
outcome_written room j = written_in room j.state.stage j
