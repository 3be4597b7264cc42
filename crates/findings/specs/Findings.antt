-- What a job has found, as numbers: a gate's weights and T, or a witness's count of each row (docs/FORMAT.md, "Calls"). No document has these
-- answers, and their own number is 105. Definitions only. Assumes nothing.
use Rattle.types.specs.declared.refusal.Refusal.TheVariants as Refusal'
use Rattle.std.specs.Prelude.{◌≡◌, Bool, true, false, not, List, [], ◌∷◌, ℕ, ℤ}
use Rattle.types.specs.declared.gate.Gate.{Gate}
use Rattle.types.specs.declared.stage.Stage.{Stage}
use Rattle.types.specs.declared.stage.Stage.TheVariants.{Open, Found, Looped, Binate}
use Rattle.refusal.specs.Refusal.{Rule, rule, Answered, checked}
use Rattle.job.specs.declared.job.Job.{Job}
use Rattle.job.specs.Calls.{gate_of, witness_of}
use Rattle.writers.specs.Calls.{fitted}
use Rattle.arrays.specs.Arrays.{fitted_gate, PutGate, GatePut, counts_of}
use Rattle.handed.specs.Handed.{Handed, value_of, made_after}

-- whether a job has ended with a gate, by its stage; whether with a witness
abbrev pub has_gate : Stage → Bool
has_gate Open = false
has_gate Found = true
has_gate Looped = false
has_gate Binate = false

abbrev pub has_witness : Stage → Bool
has_witness Open = false
has_witness Found = false
has_witness Looped = true
has_witness Binate = true

-- 105: the job has not come to what is asked for
abbrev pub not_found : Bool → Rule
not_found has = rule Refusal'.NotFound (not has)

-- the gate of a job that has found one, whose weights go into an array of so many: 105, 12
abbrev pub gate_found : ℕ → Job → Answered Gate
gate_found room j = checked (not_found (has_gate j.state.stage) ∷ []) (fitted_gate room (gate_of j))

-- the count of each row of the table of a job that has ended with a witness: 105, 12
abbrev pub counts_found : ℕ → Job → Answered (List ℕ)
counts_found room j = checked (not_found (has_witness j.state.stage) ∷ []) (fitted room (counts_of j.table (witness_of j)))

-- a call that hands back the numbers of a gate has come to this: what it answers, the lent array, the lent threshold and the lent number of
-- corrections, before and after it
abbrev pub GateBack : Answered (Handed Gate) → (old : List ℤ) (held : ℤ) (before : ℕ) → Answered ℕ → (new : List ℤ) (threshold : ℤ) (made : ℕ) → Type 0
GateBack a old held before r new threshold made = PutGate (value_of a) old held r new threshold × (made ≡ made_after before a)

-- and what it returns to C
abbrev pub GateHanded : Answered (Handed Gate) → (old : List ℤ) (held : ℤ) (before : ℕ) → ℤ → (new : List ℤ) (threshold : ℤ) (made : ℕ) → Type 0
GateHanded a old held before r new threshold made = GatePut (value_of a) old held r new threshold × (made ≡ made_after before a)
