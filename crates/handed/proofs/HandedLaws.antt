-- What is handed back with the corrections made: bytes that were written, and what a call takes of the job after a carry-on. Assumes nothing.
use Rattle.std.specs.Prelude.{Ok, Err}
use mathlib.Core.Path.{◌≡◌, refl, sym, ◌∙◌, ap}
use mathlib.Core.List.{List, [], ◌∷◌}
use Prim.Native.Nat.{ℕ, ◌≤◌}
use Rattle.types.specs.declared.refusal.Refusal.{Refusal}
use Rattle.refusal.specs.Refusal.{Answered, NoneBroken, and_then}
use Rattle.refusal.proofs.TableChecked.{kept_inputs, table_kept}
use Rattle.job.specs.declared.job.Job.{Job}
use Rattle.job.specs.declared.job.Carried.{Carried}
use Rattle.job.specs.Calls.{job_rules, carry_on, carried}
use Rattle.job.proofs.CarriedLaws.{carried_refused, carried_taken}
use Rattle.records.specs.Record.{record_bytes}
use Rattle.writers.specs.Calls.{WroteBytes, too_short, written}
use Rattle.results.proofs.ResultLaws.{checked_short}
use Rattle.outcome.specs.Outcome.{outcome, uncarried, outcome_written}
use Rattle.outcome.proofs.OutcomeLaws.{outcome_most}
use Rattle.handed.specs.Handed.{with_made, taken_with, taken_after, HandedBack}
use Rattle.handed.proofs.DecidedLaws.{carried_kept}

-- the length of what a job has come to is short
pub outcome_short : (room : ℕ) (j : Job) → NoneBroken (job_rules j []) → {w : Answered ℕ} → w ≡ written (outcome_written room j)
    → (n : ℕ) → w ≡ Ok n → n ≤ 2048
outcome_short room j kept =
    let bytes = record_bytes (outcome j) in
    checked_short (uncarried j.state.stage j.table ∷ too_short room bytes ∷ []) bytes (outcome_most j (kept_inputs j.table (table_kept j.table kept)))

-- the lent number after a call that answers q
abbrev pub made_by : (made held : ℕ) → Answered ℕ → ℕ
made_by made held (Ok n) = made
made_by made held (Err e) = held

-- bytes that were written, with the corrections made
pub with_bytes : (a : Answered (List ℕ)) (made held : ℕ) (old : List ℕ) {q : Answered ℕ} {new : List ℕ} → WroteBytes a old q new
    → HandedBack (with_made made a) old held q new (made_by made held q)
with_bytes (Ok bytes) made held old p = (p, rw p.0 refl)
with_bytes (Err e) made held old p = (p, rw p.0 refl)

-- r is what carrying the job j on by a budget gave
module _ (j : Job) (budget : ℕ) {r : Carried} (says : r ≡ carried j (carry_on j budget)) where
  -- without a refusal, the job after the call keeps its rules
  pub next_kept : {u : Unit {0}} → r.status ≡ Ok u → NoneBroken (job_rules r.job [])
  next_kept ok =
      let done = carried_taken j (carry_on j budget) (rw says at ok) in
      carried_kept j r.job budget (rw (← says) at done)

  module _ {A : Type 0} (takes : Job → Answered A) where
    -- and what a call takes of it is handed back with the corrections made
    pub next_handed : {u : Unit {0}} → r.status ≡ Ok u → with_made r.made (takes r.job) ≡ taken_after budget takes j
    next_handed {u} ok = by (carry_on j budget) says
      where
        by : (a : Answered Job) → r ≡ carried j a → with_made r.made (takes r.job) ≡ and_then a (taken_with takes j)
        by (Ok next) e = rw e refl
        by (Err x) e = let z : Err x ≡ Ok u = ap (λ (c : Carried). c.status) (sym e) ∙ ok in cc

    -- a refusal is the call's
    pub refused_handed : {e : Refusal} → r.status ≡ Err e → taken_after budget takes j ≡ Err e
    refused_handed {e} refused =
        let z : carry_on j budget ≡ Err e = carried_refused j (carry_on j budget) (rw says at refused) in
        rw z refl
