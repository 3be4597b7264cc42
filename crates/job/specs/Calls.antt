-- The calls on a job: for each its rules in their order, and its answer (document 01, "The stepping machine" and "Who causes which
-- number"). Definitions only. Assumes nothing.
use Rattle.types.specs.declared.refusal.Refusal.TheVariants as Refusal'
use Rattle.std.specs.Prelude.{ℕ, ◌+◌, ◌-◌, not, ◌||◌, List, [], ◌∷◌, replicate, pos, ◌==◌, nat_lt, Ok, Err}
use Rattle.types.specs.declared.table.Table.{Table}
use Rattle.types.specs.declared.gate.Gate.{Gate}
use Rattle.types.specs.declared.vector.Vector.{Vector}
use Rattle.types.specs.declared.witness.Witness.{Witness}
use Rattle.refusal.specs.Refusal.{Rule, rule, Answered, checked}
use Rattle.refusal.specs.TableRules.{table_rules}
use Rattle.job.specs.declared.job.Job.{Job}
use Rattle.types.specs.declared.stage.Stage.{Stage}
use Rattle.types.specs.declared.stage.Stage.TheVariants.{Open, Found, Looped, Binate}
use Rattle.job.specs.declared.job.Carried.{Carried}
use Rattle.job.specs.Machine.{run, fresh, decided}
use Rattle.function.specs.Witness.{zeros}
pub use Rattle.state.specs.Machine.{call_budget, is_ended}
use Rattle.job.specs.Sound.{cap, is_sound}

-- ---- fresh: 2, 3, 16

-- the fresh job of a table
abbrev pub fresh_job : Table → Answered Job
fresh_job t = checked (table_rules t []) (Ok (fresh t))

-- ---- decided: 2, 3, 16

-- the job of a table after one carry-on of the whole call budget
abbrev pub decided_job : Table → Answered Job
decided_job t = checked (table_rules t []) (Ok (decided t))

-- ---- carry-on: 2, 3, 16, 9, 10, the ended answer, 11

-- 9: job not sound
abbrev pub unsound : Job → Rule
unsound j = rule Refusal'.Unsound (not (is_sound j))

-- 10: budget 0 or above 100,000
abbrev pub budget_range : ℕ → Rule
budget_range b = rule Refusal'.Budget (b == 0 || nat_lt call_budget b)

-- 11: K + budget above the cap
abbrev pub past_cap : Job → ℕ → Rule
past_cap j b = rule Refusal'.Cap (nat_lt cap (j.state.k + b))

-- the rules of a job, before the other rules of every call that takes one: 2, 3, 16, 9
abbrev pub job_rules : Job → List Rule → List Rule
job_rules j others = table_rules j.table (unsound j ∷ others)

-- the test of a job alone
abbrev pub job_checked : Job → Answered (Unit {0})
job_checked j = checked (job_rules j []) (Ok tt)

-- by whether a job is open
abbrev pub if_open : Stage → Answered Job → Answered Job → Answered Job
if_open Open opened ended = opened
if_open Found opened ended = ended
if_open Looped opened ended = ended
if_open Binate opened ended = ended

-- an open job runs by its budget, or to its end; an ended one stays as it is, whatever the cap
abbrev pub carry_on : Job → ℕ → Answered Job
carry_on j b = checked (job_rules j (budget_range b ∷ [])) (if_open j.state.stage (checked (past_cap j b ∷ []) (Ok (run b j))) (Ok j))

-- the job after the call with the corrections made in it; with a refusal the job as it came in, and 0 (document 01, "Who causes which number")
abbrev pub carried : Job → Answered Job → Carried
carried j (Ok next) = record { status = Ok tt; job = next; made = next.state.k - j.state.k }
carried j (Err e) = record { status = Err e; job = j; made = 0 }

-- ---- what an ended job has

-- the gate of n inputs that a vector is: weights ai, and T = b
abbrev pub vector_gate : ℕ → Vector → Gate
vector_gate n v = record { n = n; weights = v.a; threshold = v.b }

-- the gate of a found job
abbrev pub gate_of : Job → Gate
gate_of j = vector_gate j.table.n j.state.v

-- the witness of a looped or binate job: its counts
abbrev pub witness_of : Job → Witness
witness_of j = record { counts = j.state.counts }

-- the gate and the witness all of whose numbers are 0
abbrev pub no_gate : Gate
no_gate = record { n = 0; weights = replicate 8 (pos 0); threshold = pos 0 }

abbrev pub no_witness : Witness
no_witness = record { counts = zeros }
