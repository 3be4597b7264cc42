-- The jobs whose outcome is written keep their rules, and K has grown by the corrections made: the job of a table after one carry-on, and
-- a job that was carried on. Assumes nothing.
use Rattle.std.specs.Prelude.{Ok}
use mathlib.Core.Path.{◌≡◌, ◌∙◌, ap, subst}
use mathlib.Core.Logic.{◌≢◌}
use mathlib.Core.List.{[], ◌∷◌}
use Prim.Native.Nat.{ℕ, ◌+◌, ◌≤◌}
use native.Mathlib.Omega.{arith}
use borrow.Author.Tests.{ltb-false}
use Rattle.types.specs.declared.table.Table.{Table}
use Rattle.refusal.specs.Refusal.{Answered, checked, NoneBroken, none, also}
use Rattle.refusal.specs.TableRules.{table_rules}
use Rattle.refusal.proofs.RefusalLaws.{answered_none_broken}
use Rattle.refusal.proofs.TableChecked.{kept_inputs, table_kept}
use Rattle.job.specs.declared.job.Job.{Job}
use Rattle.types.specs.declared.stage.Stage.{Stage}
use Rattle.types.specs.declared.stage.Stage.TheVariants.{Open}
use Rattle.job.specs.Machine.{run, fresh, decided}
use Rattle.job.specs.Sound.{cap, Sound}
use Rattle.job.specs.Calls.{call_budget, job_rules, budget_range, past_cap, if_open, carry_on}
use Rattle.outcome.specs.Outcome.{outcome_written}
use Rattle.handed.specs.Handed.{handed_back, with_made}
use Rattle.job.proofs.MachineLaws.{fresh_table, fresh_k, open_or_ended, run_table}
use Rattle.job.proofs.SoundLaws.{is_sound_correct}
use Rattle.job.proofs.Soundness.{fresh_sound, run_sound_from}
use Rattle.job.proofs.JobChecked.{kept_sound, job_others_kept, job_all_kept, if_open_ended}

-- a run of a job that keeps its rules keeps them, as long as K cannot pass the cap
run_kept : (j : Job) (m : ℕ) → NoneBroken (table_rules j.table []) → Sound j → j.state.k + m ≤ cap
    → NoneBroken (job_rules (run m j) [])
run_kept j m kept sound l =
    let after = run_sound_from j (kept_inputs j.table kept) sound m l in
    job_all_kept (run m j) (rw (run_table m j) kept) ((is_sound_correct (run m j)).1 after) none

-- ---- one carry-on of a fresh job

module _ (t : Table) (kept : NoneBroken (table_rules t [])) where
  fresh_kept : NoneBroken (table_rules (fresh t).table [])
  fresh_kept = rw (fresh_table t) kept

  sound : Sound (fresh t)
  sound = fresh_sound t (kept_inputs t kept)

  -- the fresh job keeps its rules
  pub fresh_job_kept : NoneBroken (job_rules (fresh t) [])
  fresh_job_kept = job_all_kept (fresh t) fresh_kept ((is_sound_correct (fresh t)).1 sound) none

  -- so does the job after it
  pub decided_kept : NoneBroken (job_rules (decided t) [])
  decided_kept = run_kept (fresh t) call_budget fresh_kept sound (omega (arith, fresh_k t))

-- a fresh job has made no corrections: K is how many were made since
grown : (room : ℕ) (before after : Job) → before.state.k ≡ 0 → with_made after.state.k (outcome_written room after) ≡ handed_back room before after
grown room before after e = ap (λ (made : ℕ). with_made made (outcome_written room after)) (omega arith)

-- so K of the job of a table is what is handed back with it
pub decided_handed : (t : Table) (room : ℕ) {j : Job} → j ≡ decided t
    → with_made j.state.k (outcome_written room j) ≡ handed_back room (fresh t) (decided t)
decided_handed t room e = ap (λ (j : Job). with_made j.state.k (outcome_written room j)) e ∙ grown room (fresh t) (decided t) (fresh_k t)

-- ---- a carry-on

module _ (j next : Job) (b : ℕ) where
  abbrev below : Answered Job
  below = checked (past_cap j b ∷ []) (Ok (run b j))

  -- an open job that is carried on: no rule is broken
  opened : (x : Stage) → x ≡ Open → checked (job_rules j (budget_range b ∷ [])) (if_open x below (Ok j)) ≡ Ok next
      → NoneBroken (job_rules j (budget_range b ∷ past_cap j b ∷ [])) × (run b j ≡ next)
  opened x o e = answered_none_broken (job_rules j (budget_range b ∷ past_cap j b ∷ [])) (run b j) next (rw o at e)

  -- an ended job stays as it is
  ended : (x : Stage) → x ≢ Open → checked (job_rules j (budget_range b ∷ [])) (if_open x below (Ok j)) ≡ Ok next
      → NoneBroken (job_rules j (budget_range b ∷ [])) × (j ≡ next)
  ended x h e =
      answered_none_broken (job_rules j (budget_range b ∷ [])) j next
      (ap (checked (job_rules j (budget_range b ∷ []))) (if_open_ended x below (Ok j) h) ∙ e)

  capped : NoneBroken (budget_range b ∷ past_cap j b ∷ []) → j.state.k + b ≤ cap
  capped (also budget (also past end)) = ltb-false cap (j.state.k + b) past

  -- the job after the call keeps its rules
  pub carried_kept : carry_on j b ≡ Ok next → NoneBroken (job_rules next [])
  carried_kept e = by (open_or_ended j.state.stage)
    where
      by : Dec (j.state.stage ≡ Open) → NoneBroken (job_rules next [])
      by (yes o) =
          let (kept, same) = opened j.state.stage o e in
          let after = run_kept j b (table_kept j.table kept) (kept_sound j kept) (capped (job_others_kept j kept)) in
          subst (λ (x : Job). NoneBroken (job_rules x [])) same after
      by (no h) =
          let (kept, same) = ended j.state.stage h e in
          let after = job_all_kept j (table_kept j.table kept) ((is_sound_correct j).1 (kept_sound j kept)) none in
          subst (λ (x : Job). NoneBroken (job_rules x [])) same after
