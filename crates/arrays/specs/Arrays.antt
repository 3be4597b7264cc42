-- Gates and witnesses as numbers in lent arrays: from a record, into one, and checked against a table (docs/FORMAT.md, "Calls"). No document
-- has these calls, and their own number is 104. Definitions only. Assumes nothing.
use Rattle.records.specs.declared.record.Record.TheVariants as Record'
use Rattle.types.specs.declared.refusal.Refusal.TheVariants as Refusal'
use Rattle.std.specs.Prelude.{◌≡◌, not, List, [], ◌∷◌, ℕ, eqb, length, take, ℤ, pos, Ok, Err}
use Rattle.types.specs.declared.table.Table.{Table}
use Rattle.types.specs.declared.gate.Gate.{Gate}
use Rattle.types.specs.declared.witness.Witness.{Witness}
use Rattle.table.specs.Table.{rows, padded}
use Rattle.refusal.specs.Refusal.{Rule, rule, Answered, checked, and_then}
use Rattle.cell.specs.Calls.{check_gate, check_witness}
use Rattle.writers.specs.Calls.{too_short, write_record, WroteBytes}
use Rattle.results.specs.Result.{said, Returned}

-- ---- from a record

-- the weights of a gate's inputs
abbrev pub weights_of : Gate → List ℤ
weights_of g = take g.n g.weights

-- a gate whose weights go into an array of so many: 12
abbrev pub fitted_gate : ℕ → Gate → Answered Gate
fitted_gate room g = checked (too_short room (weights_of g) ∷ []) (Ok g)

-- the lent threshold after the call: T; a refused call keeps it
abbrev pub threshold_after : ℤ → Answered Gate → ℤ
threshold_after held (Ok g) = g.threshold
threshold_after held (Err n) = held

-- a call that puts the numbers of a gate into what is lent has come to this: what it answers, the lent array, and the lent threshold, before and after it
abbrev pub PutGate : Answered Gate → (old : List ℤ) (held : ℤ) → Answered ℕ → (new : List ℤ) (threshold : ℤ) → Type 0
PutGate a old held r new threshold = WroteBytes (and_then a (λ g. Ok (weights_of g))) old r new × (threshold ≡ threshold_after held a)

-- and what it returns to C
abbrev pub GatePut : Answered Gate → (old : List ℤ) (held : ℤ) → ℤ → (new : List ℤ) (threshold : ℤ) → Type 0
GatePut a old held r new threshold = Returned (and_then a (λ g. Ok (weights_of g))) old r new × (threshold ≡ threshold_after held a)

-- the counts of a witness, of the rows of its table
abbrev pub counts_of : Table → Witness → List ℕ
counts_of t w = take (rows t) w.counts

-- ---- into a record

-- 104: not a number for each of so many
abbrev pub other_count : {A : Type 0} → List A → ℕ → Rule
other_count xs m = rule Refusal'.Numbers (not (eqb (length xs) m))

-- a gate for a table by its weights and T
abbrev pub gate_with : Table → List ℤ → ℤ → Gate
gate_with t ws threshold = record { n = t.n; weights = padded 8 (pos 0) ws; threshold = threshold }

-- its record, of a table that keeps its rules: 104, 16, 7, 12
abbrev pub from_gate : Table → List ℤ → ℤ → ℕ → Answered (List ℕ)
from_gate t ws threshold room = checked (other_count ws t.n ∷ []) (write_record (Record'.Gate t (gate_with t ws threshold)) room)

-- a witness by its counts
abbrev pub witness_with : List ℕ → Witness
witness_with cs = record { counts = padded 256 0 cs }

-- its record with a table that keeps its rules: 104, 16, 8, 12
abbrev pub from_witness : Table → List ℕ → ℕ → Answered (List ℕ)
from_witness t cs room = checked (other_count cs (rows t) ∷ []) (write_record (Record'.Witness t (witness_with cs)) room)

-- ---- checked

-- whether the gate of these numbers agrees with a table that keeps its rules on every row that is cared for: 104, 7
abbrev pub check_gate_with : Table → List ℤ → ℤ → Answered ℕ
check_gate_with t ws threshold = checked (other_count ws t.n ∷ []) (said (check_gate t (gate_with t ws threshold)))

-- whether these counts balance against a table that keeps its rules: 104, 8
abbrev pub check_witness_with : Table → List ℕ → Answered ℕ
check_witness_with t cs = checked (other_count cs (rows t) ∷ []) (said (check_witness t (witness_with cs)))
