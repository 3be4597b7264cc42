-- Demand 3, one claim about every list of calls, in statements alone (document 01, "The stepping machine"). The program's replies are read
-- off what the contracts of carry-on, save and read give; the machine's come from the machine and the orders alone. Assumes nothing.
use Rattle.records.specs.declared.record.Record.TheVariants as Record'
use Rattle.std.specs.Prelude.{◌≡◌, ◌↔◌, List, [], ◌∷◌, ℕ, ◌+◌, ◌-◌, ◌*◌, ◌≤◌, ℤ, length, take, Ok, Err}
use Rattle.types.specs.declared.table.Table.{Table}
use Rattle.types.specs.declared.stage.Stage.{Stage}
use Rattle.types.specs.declared.stage.Stage.TheVariants.{Open, Found, Looped, Binate}
use Rattle.function.specs.Gate.{Realises}
use Rattle.refusal.specs.Refusal.{Rule, Answered, checked, FirstBroken}
use Rattle.job.specs.declared.job.Job.{Job}
use Rattle.job.specs.declared.job.Carried.{Carried}
use Rattle.job.specs.Machine.{run}
use Rattle.job.specs.Sound.{Sound}
use Rattle.job.specs.Calls.{fresh_job, job_rules, budget_range, past_cap, carry_on, carried}
use Rattle.types.specs.declared.refusal.Refusal.{Refusal}
use Rattle.types.specs.Refusal.{number_of}
use Rattle.records.specs.declared.record.Record.{Record}
use Rattle.records.specs.Record.{record_bytes, read_record}
use Rattle.writers.specs.Calls.{record_rules, too_short, write_record, written, lent}
use Rattle.theory.specs.Bound.{factor}
use Rattle.table.specs.Table.{function_of}

-- ---- calls and replies

-- carry-on with a budget; or save into a lent buffer and, unless the save is refused, read exactly the bytes it wrote
pub data Call : Type 0 where
  carry_on_by : (budget : ℕ) → Call
  save_and_read : (buffer : List ℕ) → Call

-- what a call gives: the number of its refusal, with the corrections that it reports beside it; the corrections made; or the bytes saved
pub data Reply : Type 0 where
  number : (n corrections : ℕ) → Reply
  made : (corrections : ℕ) → Reply
  saved : (bytes : List ℕ) → Reply

-- the reply of a call, and the job that the call returned or left
pub record After : Type 0 where
  pub reply : Reply
  pub job : Job

-- ---- the program's replies: what the contracts give, and nothing besides

-- of carry-on: its status, its corrections made and its job
abbrev pub carried_reply : Answered (Unit {0}) → ℕ → Reply
carried_reply (Ok x) corrections = made corrections
carried_reply (Err e) corrections = number (number_of e) corrections

abbrev pub after_carry : Carried → After
after_carry c = record { reply = carried_reply c.status c.made; job = c.job }

-- of read: the job of a record that is one takes the old one's place; after anything else the old one would stay, with the number of the
-- refusal, or 0, which no refusal has
abbrev pub after_read : Job → List ℕ → Answered Record → After
after_read old bytes (Ok (Record'.Job next)) = record { reply = saved bytes; job = next }
after_read old bytes (Ok (Record'.Table t)) = record { reply = number 0 0; job = old }
after_read old bytes (Ok (Record'.Gate t g)) = record { reply = number 0 0; job = old }
after_read old bytes (Ok (Record'.Witness t w)) = record { reply = number 0 0; job = old }
after_read old bytes (Err e) = record { reply = number (number_of e) 0; job = old }

-- of save: the number of bytes written, which are read from the buffer as the save left it; or a refusal
abbrev pub after_save : Job → List ℕ → Answered ℕ → After
after_save old buffer (Ok size) = let bytes = take size buffer in after_read old bytes (read_record bytes)
after_save old buffer (Err e) = record { reply = number (number_of e) 0; job = old }

abbrev pub called : Job → Call → After
called j (carry_on_by budget) = after_carry (carried j (carry_on j budget))
called j (save_and_read buffer) = let save = write_record (Record'.Job j) (length buffer) in after_save j (lent buffer save) (written save)

-- the replies of a list: each call gets the job that the call before it returned or left
unfoldable pub replies : Job → List Call → List After
replies j [] = []
replies j (c ∷ cs) = called j c ∷ replies (called j c).job cs

-- and the job after the list
unfoldable pub after : Job → List Call → Job
after j [] = j
after j (c ∷ cs) = after (called j c).job cs

-- ---- the machine's replies: its job at each point, and the order of the call

-- a rule that is asked of open jobs only
abbrev pub of_open : Stage → List Rule → List Rule
of_open Open rules = rules
of_open Found rules = []
of_open Looped rules = []
of_open Binate rules = []

-- the order of a call, for its arguments and the machine's job: carry-on 2, 3, 16, 9, 10, the ended answer, 11, which is asked of an open job alone;
-- save 2, 3, 16, 9, 13, 12
abbrev pub call_rules : Job → Call → List Rule
call_rules m (carry_on_by budget) = job_rules m (budget_range budget ∷ of_open m.state.stage (past_cap m budget ∷ []))
call_rules m (save_and_read buffer) = record_rules (Record'.Job m) (too_short (length buffer) (record_bytes (Record'.Job m)) ∷ [])

-- an accepted budget runs the machine, and what its K grows by is made; a save writes its job, which stays
abbrev pub on_machine : Job → Call → After
on_machine m (carry_on_by budget) = record { reply = made ((run budget m).state.k - m.state.k); job = run budget m }
on_machine m (save_and_read buffer) = record { reply = saved (record_bytes (Record'.Job m)); job = m }

-- a refused call makes no correction and leaves the job as it was
abbrev pub or_left : Job → Answered After → After
or_left m (Ok a) = a
or_left m (Err e) = record { reply = number (number_of e) 0; job = m }

-- the first broken rule of the order gives its number; where none is broken the call is accepted
abbrev pub machine_reply : Job → Call → After
machine_reply m c = or_left m (checked (call_rules m c) (Ok (on_machine m c)))

unfoldable pub machine_replies : Job → List Call → List After
machine_replies m [] = []
machine_replies m (c ∷ cs) = machine_reply m c ∷ machine_replies (machine_reply m c).job cs

-- ---- the machine, fed the accepted budgets alone

abbrev pub budget_if : Answered (Unit {0}) → ℕ → ℕ
budget_if (Ok x) budget = budget
budget_if (Err e) budget = 0

-- the budget of an accepted carry-on; every other call feeds nothing
abbrev pub accepted : Job → Call → ℕ
accepted m (carry_on_by budget) = budget_if (checked (call_rules m (carry_on_by budget)) (Ok tt)) budget
accepted m (save_and_read buffer) = 0

-- the sum of the accepted budgets, each call judged by the machine's job at that point
unfoldable pub fed : Job → List Call → ℕ
fed m [] = 0
fed m (c ∷ cs) = accepted m c + fed (run (accepted m c) m) cs

-- ---- the claim

-- Of a list of calls from the job j of the table: call for call, the number of its refusal, the corrections made or the bytes saved are the
-- machine's, and so is every part of the job after it. The job after the list is the machine's after the sum of the accepted budgets, or
-- at its end; it is sound; and its K is at most (n + 1) × (4 × the sum of the squared weights + (2T − 1) squared) for every choice of n
-- integer weights and a T, of any size, that realises the table
pub record ListIsTheMachine (t : Table) (j : Job) (cs : List Call) : Type 0 where
  pub replied : replies j cs ≡ machine_replies j cs
  pub job : after j cs ≡ run (fed j cs) j
  pub sound : Sound (after j cs)
  pub bound : (ws : List ℤ) (th : ℤ) → length ws ≡ t.n → Realises ws th (function_of t) → (after j cs).state.k ≤ (t.n + 1) * factor ws th

-- Every list of calls from the fresh job of the table is the machine; and the machine refuses a call exactly where its order gives a number
-- for the call's arguments and the machine's job; its K never falls, so that what it grows by is a difference
pub record CallsAreTheMachine (t : Table) : Type 0 where
  pub list : (j : Job) → fresh_job t ≡ Ok j → (cs : List Call) → ListIsTheMachine t j cs
  pub refusal : (m : Job) (c : Call) (n : ℕ) → (machine_reply m c).reply ≡ number n 0 ↔ ((e : Refusal) × (number_of e ≡ n) × FirstBroken e (call_rules m c))
  pub grows : (m : Job) (budget : ℕ) → m.state.k ≤ (run budget m).state.k
