-- The calls that take the numbers of a gate or a witness out of a record, make a record of numbers, check numbers against a table, make a
-- table's fresh job, or tell how far a job has come (docs/FORMAT.md, "Calls"). No document has these calls. Each goes by what reading gives
-- first, then 100, then its own numbers. Definitions only. Assumes nothing.
use Rattle.std.specs.Prelude.{List, ℕ, ℤ, Ok}
use Rattle.types.specs.declared.gate.Gate.{Gate}
use Rattle.refusal.specs.Refusal.{Answered, and_then}
use Rattle.job.specs.declared.job.Job.{Job}
use Rattle.job.specs.Machine.{fresh}
use Rattle.writers.specs.Calls.{fitted}
use Rattle.outcome.specs.Outcome.{outcome_written}
use Rattle.arrays.specs.Arrays.{fitted_gate, from_gate, from_witness, check_gate_with, check_witness_with}
use Rattle.requests.specs.Taken.{table_read, gate_read, counts_read, job_read}

-- kind 2, the gate whose numbers are taken: 12
abbrev pub gate_taken : List ℕ → ℕ → Answered Gate
gate_taken s room = and_then (gate_read s) (fitted_gate room)

-- kind 3, the count of each row: 12
abbrev pub counts_taken : List ℕ → ℕ → Answered (List ℕ)
counts_taken s room = and_then (counts_read s) (fitted room)

-- kind 1 or 5 with the numbers of a gate, as kind 2: 104, 16, 7, 12
abbrev pub gate_record : List ℕ → List ℤ → ℤ → ℕ → Answered (List ℕ)
gate_record s weights threshold room = and_then (table_read s) (λ t. from_gate t weights threshold room)

-- kind 1 or 5 with the counts of a witness, as kind 3: 104, 16, 8, 12
abbrev pub witness_record : List ℕ → List ℕ → ℕ → Answered (List ℕ)
witness_record s counts room = and_then (table_read s) (λ t. from_witness t counts room)

-- kind 1 or 5 and the numbers of a gate, whether it agrees with the table on every row that is cared for: 104, 7
abbrev pub gate_holds : List ℕ → List ℤ → ℤ → Answered ℕ
gate_holds s weights threshold = and_then (table_read s) (λ t. check_gate_with t weights threshold)

-- kind 1 or 5 and the counts of a witness, whether they balance: 104, 8
abbrev pub witness_holds : List ℕ → List ℕ → Answered ℕ
witness_holds s counts = and_then (table_read s) (λ t. check_witness_with t counts)

-- kind 1 or 5, what the fresh job has come to: it is open (kind 4 or 6), or has ended with the witness of a binate input (kind 3), or found
-- with no row cared for: 16, 12
abbrev pub fresh_record : List ℕ → ℕ → Answered (List ℕ)
fresh_record s room = and_then (table_read s) (λ t. outcome_written room (fresh t))

-- kind 4 or 6, the corrections made so far
abbrev pub corrections : List ℕ → Answered ℕ
corrections s = and_then (job_read s) (λ (j : Job). Ok j.state.k)
