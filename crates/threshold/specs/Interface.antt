-- The calls of the C interface: what each comes to, over the bytes of a record (document 01, "Records"; document 02, §3), its numbers, and the
-- room of the lent buffer. Each goes by what reading gives first, then 100 for a kind that it does not take, then its own numbers. The
-- calls from hex digits and words stand in `digits/specs/Digits.antt` and `words/specs/Words.antt`, those on numbers, on fresh jobs and on how
-- far a job has come in `requests/specs/Requests.antt`, those on what a job has found in `found_within/specs/Found.antt`. Definitions only. Assumes
-- nothing.
use Rattle.std.specs.Prelude.{List, ℕ, Ok}
use Rattle.table.specs.Inputs.{kinds_of}
use Rattle.table.specs.Chow.{chow_of}
use Rattle.refusal.specs.Refusal.{Answered, and_then}
use Rattle.writers.specs.Calls.{fitted}
use Rattle.certificates.specs.Certificate.{check_in, kind_in, value_in}
use Rattle.inputs.specs.Inputs.{input_bytes, chow_bytes}
use Rattle.handed.specs.Handed.{Handed, decided_back, carried_back}
use Rattle.records.specs.Record.{read_record}
use Rattle.requests.specs.Taken.{table_read, job_read}

-- ---- decide and carry on

-- kind 1 or 5: one carry-on of 100,000 corrections of the fresh job, and what it has come to: 16, 12
abbrev pub decide : List ℕ → ℕ → Answered (Handed (List ℕ))
decide s room = and_then (table_read s) (decided_back room)

-- kind 4 or 6, carried on by the budget: 10, 11, and what it has come to: 16, 12
unfoldable pub carried_on : List ℕ → ℕ → ℕ → Answered (Handed (List ℕ))
carried_on s budget room = and_then (job_read s) (carried_back budget room)

-- ---- check, kind and value

-- kinds 2 and 3, whether the gate realises the table or the witness balances: 1 or 0
unfoldable pub check : List ℕ → Answered ℕ
check s = and_then (read_record s) check_in

-- the kind of a record that is whole and right, 1 to 6
unfoldable pub kind : List ℕ → Answered ℕ
kind s = and_then (read_record s) (λ x. Ok (kind_in x))

-- kinds 1 and 5, the table's value on a row, or kind 2, the gate's: 0 or 1; 14
unfoldable pub value_on : List ℕ → ℕ → Answered ℕ
value_on s row = and_then (read_record s) (value_in row)

-- ---- the inputs of a table, kind 1 or 5

-- the kind of each of the eight inputs: 12
abbrev pub kinds : List ℕ → ℕ → Answered (List ℕ)
kinds s room = and_then (table_read s) (λ t. fitted room (input_bytes (kinds_of t)))

-- Chow's parameters of the eight inputs: 12
abbrev pub chow : List ℕ → ℕ → Answered (List ℕ)
chow s room = and_then (table_read s) (λ t. fitted room (chow_bytes (chow_of t)))
