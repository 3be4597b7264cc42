-- What a carry-on gave (`Job::carry_on`) says of the call: a refusal is the call's, and without one the job after it is. Assumes nothing.
use Rattle.std.specs.Prelude.{Ok, Err}
use mathlib.Core.Path.{◌≡◌, refl}
use Rattle.types.specs.declared.refusal.Refusal.{Refusal}
use Rattle.refusal.specs.Refusal.{Answered}
use Rattle.job.specs.declared.job.Job.{Job}
use Rattle.job.specs.Calls.{carried}

module _ (j : Job) where
  pub carried_refused : (a : Answered Job) {e : Refusal} → (carried j a).status ≡ Err e → a ≡ Err e
  carried_refused (Ok next) is = cc
  carried_refused (Err e) is = cc

  pub carried_taken : (a : Answered Job) {u : Unit {0}} → (carried j a).status ≡ Ok u → a ≡ Ok (carried j a).job
  carried_taken (Ok next) is = refl
  carried_taken (Err e) is = cc
