-- What `decide` and `carry_on` hand back: what the job has come to, as the bytes of a record, with the corrections made (document 01, "The
-- stepping machine"). Definitions only. Assumes nothing.
use Rattle.std.specs.Prelude.{◌≡◌, List, ℕ, ◌-◌, ℤ, Ok, Err}
use Rattle.types.specs.declared.table.Table.{Table}
use Rattle.refusal.specs.Refusal.{Answered, and_then}
use Rattle.job.specs.declared.job.Job.{Job}
use Rattle.job.specs.Machine.{fresh, decided}
use Rattle.job.specs.Calls.{carry_on}
use Rattle.writers.specs.Calls.{WroteBytes}
use Rattle.results.specs.Result.{Returned}
use Rattle.outcome.specs.Outcome.{outcome_written}

-- what a call hands back, "with the corrections made in this call" (document 01, "The stepping machine")
pub record Handed (A : Type 0) : Type 0 where
  pub value : A
  pub made : ℕ

-- what is handed back, with the corrections made
abbrev pub with_made : {A : Type 0} → ℕ → Answered A → Answered (Handed A)
with_made made a = and_then a (λ x. Ok (record { value = x; made = made }))

-- it alone
abbrev pub value_of : {A : Type 0} → Answered (Handed A) → Answered A
value_of a = and_then a (λ h. Ok h.value)

-- the lent number after the call: the corrections made; a refused call keeps it
abbrev pub made_after : {A : Type 0} → ℕ → Answered (Handed A) → ℕ
made_after old (Ok h) = h.made
made_after old (Err n) = old

-- a call that hands back bytes, or other numbers, has come to this: what it answers, the lent buffer, and the lent number, before and after it
abbrev pub HandedBack : Answered (Handed (List ℕ)) → (old : List ℕ) (held : ℕ) → Answered ℕ → (new : List ℕ) (made : ℕ) → Type 0
HandedBack a old held r new made = WroteBytes (value_of a) old r new × (made ≡ made_after held a)

-- and what it returns to C
abbrev pub HandedOver : Answered (Handed (List ℕ)) → (old : List ℕ) (held : ℕ) → ℤ → (new : List ℕ) (made : ℕ) → Type 0
HandedOver a old held r new made = Returned (value_of a) old r new × (made ≡ made_after held a)

-- what a call takes of a job, with the corrections made from one job to it, by which K has grown
abbrev pub taken_with : {A : Type 0} → (Job → Answered A) → Job → Job → Answered (Handed A)
taken_with takes before after = with_made (after.state.k - before.state.k) (takes after)

-- a job, carried on by the budget: 10, 11, and what the call takes of it then
abbrev pub taken_after : {A : Type 0} → ℕ → (Job → Answered A) → Job → Answered (Handed A)
taken_after budget takes j = and_then (carry_on j budget) (taken_with takes j)

-- what a job has come to, with the corrections made
abbrev pub handed_back : ℕ → Job → Job → Answered (Handed (List ℕ))
handed_back room = taken_with (outcome_written room)

-- a table: the fresh job, one carry-on of 100,000 corrections, and what it has come to
abbrev pub decided_back : ℕ → Table → Answered (Handed (List ℕ))
decided_back room t = handed_back room (fresh t) (decided t)

-- a job, carried on by the budget: 10, 11, and what it has come to
abbrev pub carried_back : ℕ → ℕ → Job → Answered (Handed (List ℕ))
carried_back budget room = taken_after budget (outcome_written room)
