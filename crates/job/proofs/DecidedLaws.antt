-- What `Job::decided` gives of a table that keeps its format: the machine's job after the whole call budget, which is what one carry-on of
-- the fresh job gives. Assumes nothing.
use Rattle.std.specs.Prelude.{◌≡◌, ◌+◌, ◌≤◌, [], ◌∷◌, Ok}
use mathlib.Core.Path.{refl, sym, ap, ◌∙◌}
use native.Mathlib.Omega.{arith}
use borrow.Author.Tests.{le-ltb}
use Rattle.types.specs.declared.table.Table.{Table}
use Rattle.refusal.specs.Refusal.{Answered, checked, NoneBroken, none, also}
use Rattle.refusal.specs.TableRules.{table_rules}
use Rattle.refusal.proofs.RefusalLaws.{none_broken_answered}
use Rattle.refusal.proofs.TableChecked.{kept_inputs}
use Rattle.job.specs.declared.job.Job.{Job}
use Rattle.types.specs.declared.stage.Stage.TheVariants.{Open}
use Rattle.job.specs.Machine.{fresh, decided}
use Rattle.job.specs.Sound.{cap}
use Rattle.job.specs.Calls.{call_budget, decided_job, job_rules, budget_range, past_cap, if_open, carry_on}
use Rattle.job.proofs.MachineLaws.{fresh_table, fresh_k, run_table, open_or_ended, run_ended}
use Rattle.job.proofs.SoundLaws.{is_sound_correct}
use Rattle.job.proofs.Soundness.{fresh_sound, run_sound}
use Rattle.job.proofs.JobChecked.{job_all_kept, if_open_ended}

-- it is a job of the table
pub decided_table : (t : Table) → (decided t).table ≡ t
decided_table t = run_table call_budget (fresh t) ∙ fresh_table t

module _ (t : Table) (kept : NoneBroken (table_rules t [])) where
  -- the table is taken
  pub decided_answered : decided_job t ≡ Ok (decided t)
  decided_answered = none_broken_answered (table_rules t []) (Ok (decided t)) kept

  kept_rules : NoneBroken (job_rules (fresh t) (budget_range call_budget ∷ []))
  kept_rules = job_all_kept (fresh t) (rw (fresh_table t) kept) ((is_sound_correct (fresh t)).1 (fresh_sound t (kept_inputs t kept))) (also refl none)

  -- and so is a carry-on of its fresh job, which gives the same
  pub decided_carried : carry_on (fresh t) call_budget ≡ decided_job t
  decided_carried =
      none_broken_answered (job_rules (fresh t) (budget_range call_budget ∷ [])) later kept_rules
      ∙ by (open_or_ended (fresh t).state.stage)
      ∙ sym decided_answered
    where
      below : Answered Job
      below = checked (past_cap (fresh t) call_budget ∷ []) (Ok (decided t))

      later : Answered Job
      later = if_open (fresh t).state.stage below (Ok (fresh t))

      by : Dec ((fresh t).state.stage ≡ Open) → later ≡ Ok (decided t)
      by (yes e) = rw (e, le-ltb cap ((fresh t).state.k + call_budget) (omega (arith, fresh_k t)))
      by (no e) = sym (if_open_ended (fresh t).state.stage below (Ok (fresh t)) e) ∙ ap Ok (sym (run_ended call_budget (fresh t) e))

  -- its K is at most the cap
  pub decided_capped : (decided t).state.k ≤ cap
  decided_capped = (run_sound t (kept_inputs t kept) call_budget (omega arith)).capped
