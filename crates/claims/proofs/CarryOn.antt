-- What an accepted and a refused carry-on give, in every case of the stage. Assumes nothing.
use Rattle.std.specs.Prelude.{Ok, Err}
use mathlib.Core.Path.{◌≡◌, refl, sym, ◌∙◌, ap, subst}
use mathlib.Core.Logic.{◌≢◌}
use mathlib.Core.List.{[], ◌∷◌}
use Prim.Native.Nat.{ℕ, ◌+◌, ◌-◌}
use native.Mathlib.Omega.{arith}
use Rattle.types.specs.declared.refusal.Refusal.{Refusal}
use Rattle.refusal.specs.Refusal.{Answered, checked}
use Rattle.job.specs.declared.job.Job.{Job}
use Rattle.types.specs.declared.stage.Stage.{Stage}
use Rattle.types.specs.declared.stage.Stage.TheVariants.{Open, Found, Looped, Binate}
use Rattle.job.specs.Machine.{run}
use Rattle.job.specs.Calls.{job_rules, budget_range, past_cap, if_open, carry_on, carried}
use Rattle.job.proofs.MachineLaws.{run_ended, run_add, open_or_ended}
use Rattle.job.proofs.Soundness.{run_grows}
use Rattle.claims.specs.Claims.{ByRules}
use Rattle.claims.proofs.Rules.{by_rules}

-- the call of an open job: the cap's rule stands last
open_call : (x : Stage) (j : Job) (b : ℕ) → x ≡ Open
    → checked (job_rules j (budget_range b ∷ [])) (if_open x (checked (past_cap j b ∷ []) (Ok (run b j))) (Ok j))
    ≡ checked (job_rules j (budget_range b ∷ past_cap j b ∷ [])) (Ok (run b j))
open_call x j b e = simp e

ended_call : (x : Stage) (j : Job) (b : ℕ) → x ≢ Open
    → checked (job_rules j (budget_range b ∷ [])) (if_open x (checked (past_cap j b ∷ []) (Ok (run b j))) (Ok j))
    ≡ checked (job_rules j (budget_range b ∷ [])) (Ok j)
ended_call Open j b h = absurd (h refl)
ended_call Found j b h = refl
ended_call Looped j b h = refl
ended_call Binate j b h = refl

-- an open job goes by 2, 3, 16, 9, 10 and 11
pub carry_on_open : (j : Job) (b : ℕ) → j.state.stage ≡ Open → ByRules (job_rules j (budget_range b ∷ past_cap j b ∷ [])) (run b j) (carry_on j b)
carry_on_open j b e =
    subst (ByRules (job_rules j (budget_range b ∷ past_cap j b ∷ [])) (run b j)) (sym (open_call j.state.stage j b e)) (by_rules (job_rules j (budget_range b ∷ past_cap j b ∷ [])) (run b j))

-- an ended job goes by 2, 3, 16, 9 and 10
pub carry_on_ended : (j : Job) (b : ℕ) → j.state.stage ≢ Open → ByRules (job_rules j (budget_range b ∷ [])) j (carry_on j b)
carry_on_ended j b h =
    subst (ByRules (job_rules j (budget_range b ∷ [])) j) (sym (ended_call j.state.stage j b h)) (by_rules (job_rules j (budget_range b ∷ [])) j)

-- an accepted call gives the machine's job: an ended job runs no further
pub carried_on_lem : (j next : Job) (b : ℕ) → carry_on j b ≡ Ok next → next ≡ run b j
carried_on_lem j next b e = by (open_or_ended j.state.stage)
  where
    by : Dec (j.state.stage ≡ Open) → next ≡ run b j
    by (yes o) = sym (((carry_on_open j b o).value next).0 e).1
    by (no h) = sym (((carry_on_ended j b h).value next).0 e).1 ∙ sym (run_ended b j h)

-- the corrections made are the growth of K
pub growth : (j next : Job) (b : ℕ) → carry_on j b ≡ Ok next → (carried j (carry_on j b)).made + j.state.k ≡ (run b j).state.k
growth j next b e =
    let made : (carried j (carry_on j b)).made ≡ next.state.k - j.state.k = ap (λ (x : Answered Job). (carried j x).made) e in
    let same : next.state.k ≡ (run b j).state.k = ap (λ (x : Job). x.state.k) (carried_on_lem j next b e) in
    omega (arith, run_grows j b)

-- two calls are one run of the sum
pub twice : (j next last : Job) (a b : ℕ) → carry_on j a ≡ Ok next → carry_on next b ≡ Ok last → last ≡ run (a + b) j
twice j next last a b e f = carried_on_lem next last b f ∙ ap (run b) (carried_on_lem j next a e) ∙ sym (run_add a b j)

-- a refused call gives the job as it came in, and 0
pub kept : (j : Job) (b : ℕ) (n : Refusal) → carry_on j b ≡ Err n → ((carried j (carry_on j b)).job ≡ j) × ((carried j (carry_on j b)).made ≡ 0)
kept j b n e = (ap (λ (x : Answered Job). (carried j x).job) e, ap (λ (x : Answered Job). (carried j x).made) e)
