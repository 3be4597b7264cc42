-- What the test of a job (`job_status`) says of every call's rules, which begin with the job's: callers cite these laws and not the rules'
-- text. Assumes nothing.
use Rattle.std.specs.Prelude.{◌≡◌, ◌≤◌, true, not, ◌≢◌, List, [], ◌∷◌, Ok, Err}
use mathlib.Core.Path.{refl, ap}
use borrow.Author.Tests.{not-false}
use Rattle.types.specs.declared.refusal.Refusal.{Refusal}
use Rattle.refusal.specs.Refusal.{Rule, Answered, checked, NoneBroken, also}
use Rattle.refusal.proofs.StatusLaws.{rules_refused, rules_kept, rules_passed}
use Rattle.refusal.proofs.TableChecked.{kept_inputs, others_kept, all_kept}
use Rattle.job.specs.declared.job.Job.{Job}
use Rattle.types.specs.declared.stage.Stage.{Stage}
use Rattle.types.specs.declared.stage.Stage.TheVariants.{Open, Found, Looped, Binate}
use Rattle.job.specs.Sound.{Sound, is_sound}
use Rattle.refusal.specs.TableRules.{table_rules}
use Rattle.job.specs.Calls.{unsound, job_rules, job_checked, if_open}
use Rattle.job.proofs.SoundLaws.{is_sound_correct}

sound_kept : (j : Job) {others : List Rule} → NoneBroken (unsound j ∷ others) → Sound j × NoneBroken others
sound_kept j (also sound rest) = ((is_sound_correct j).0 (not-false (is_sound j) sound), rest)

-- a job whose rules are kept, before any others, is sound
pub kept_sound : (j : Job) {others : List Rule} → NoneBroken (job_rules j others) → Sound j
kept_sound j kept = (sound_kept j (others_kept j.table kept)).0

-- and the others of the call are kept
pub job_others_kept : (j : Job) {others : List Rule} → NoneBroken (job_rules j others) → NoneBroken others
job_others_kept j kept = (sound_kept j (others_kept j.table kept)).1

-- the rules of a sound job on a table that keeps its own, and the others, together
pub job_all_kept : (j : Job) {others : List Rule} → NoneBroken (table_rules j.table []) → is_sound j ≡ true → NoneBroken others → NoneBroken (job_rules j others)
job_all_kept j taken sound rest = all_kept j.table taken (also (ap not sound) rest)

-- s is what `job_status` returned for the job j
module _ {s : Answered (Unit {0})} (j : Job) (says : s ≡ job_checked j) where
  -- a job that is refused is refused with its refusal by every call that begins with the job's rules
  pub job_refused : {A : Type 0} (others : List Rule) (next : Answered A) {n : Refusal} → s ≡ Err n → Err n ≡ checked (job_rules j others) next
  job_refused others next e = rules_refused (job_rules j []) says (checked others next) e

  -- a job that is taken leaves the call to its other rules
  pub job_passed : {A : Type 0} (others : List Rule) (next : Answered A) → s ≡ Ok tt → checked others next ≡ checked (job_rules j others) next
  job_passed others next e = rules_passed (job_rules j []) says (checked others next) e

  -- and has at most eight inputs
  pub job_inputs : s ≡ Ok tt → j.table.n ≤ 8
  job_inputs e = kept_inputs j.table (rules_kept (job_rules j []) says e)

  -- and is sound
  pub job_sound : s ≡ Ok tt → Sound j
  job_sound e = kept_sound j (rules_kept (job_rules j []) says e)

-- of an ended job, the answer for those stands
pub if_open_ended : (x : Stage) (opened ended : Answered Job) → x ≢ Open → ended ≡ if_open x opened ended
if_open_ended Open opened ended n = absurd (n refl)
if_open_ended Found opened ended n = refl
if_open_ended Looped opened ended n = refl
if_open_ended Binate opened ended n = refl
