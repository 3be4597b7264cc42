-- What a call of the C interface takes of the bytes of a record (document 01, "Records"): what reading refuses is passed on, then 100
-- for a kind that the call does not take (docs/FORMAT.md, "Refusals"). Definitions only. Assumes nothing.
use Rattle.std.specs.Prelude.{List, ℕ, Ok, Err}
use Rattle.types.specs.declared.refusal.Refusal.TheVariants as Refusal'
use Rattle.records.specs.declared.record.Record.TheVariants as Record'
use Rattle.types.specs.declared.table.Table.{Table}
use Rattle.types.specs.declared.gate.Gate.{Gate}
use Rattle.refusal.specs.Refusal.{Answered, and_then}
use Rattle.job.specs.declared.job.Job.{Job}
use Rattle.records.specs.declared.record.Record.{Record}
use Rattle.records.specs.Record.{read_record}
use Rattle.arrays.specs.Arrays.{counts_of}

-- the table of a record of kind 1 or 5
abbrev pub table_of : Record → Answered Table
table_of (Record'.Table t) = Ok t
table_of (Record'.Gate t g) = Err Refusal'.OtherKind
table_of (Record'.Witness t w) = Err Refusal'.OtherKind
table_of (Record'.Job j) = Err Refusal'.OtherKind

-- the gate of a record of kind 2
abbrev pub gate_of : Record → Answered Gate
gate_of (Record'.Table t) = Err Refusal'.OtherKind
gate_of (Record'.Gate t g) = Ok g
gate_of (Record'.Witness t w) = Err Refusal'.OtherKind
gate_of (Record'.Job j) = Err Refusal'.OtherKind

-- the counts of the rows in a record of kind 3
abbrev pub rows_of : Record → Answered (List ℕ)
rows_of (Record'.Table t) = Err Refusal'.OtherKind
rows_of (Record'.Gate t g) = Err Refusal'.OtherKind
rows_of (Record'.Witness t w) = Ok (counts_of t w)
rows_of (Record'.Job j) = Err Refusal'.OtherKind

-- the open job of a record of kind 4 or 6
abbrev pub job_of : Record → Answered Job
job_of (Record'.Table t) = Err Refusal'.OtherKind
job_of (Record'.Gate t g) = Err Refusal'.OtherKind
job_of (Record'.Witness t w) = Err Refusal'.OtherKind
job_of (Record'.Job j) = Ok j

abbrev pub table_read : List ℕ → Answered Table
table_read s = and_then (read_record s) table_of

abbrev pub gate_read : List ℕ → Answered Gate
gate_read s = and_then (read_record s) gate_of

abbrev pub counts_read : List ℕ → Answered (List ℕ)
counts_read s = and_then (read_record s) rows_of

abbrev pub job_read : List ℕ → Answered Job
job_read s = and_then (read_record s) job_of
