-- One call of a list: what it gives and the job after it are the machine's reply, which runs the machine by the accepted budget; and the
-- job stays sound. The law that a saved job is read back is a parameter. Assumes nothing.
use Rattle.records.specs.declared.record.Record.TheVariants as Record'
use Rattle.std.specs.Prelude.{Ok, Err}
use mathlib.Core.Path.{◌≡◌, refl, sym, ◌∙◌, ap, subst}
use mathlib.Core.Logic.{◌↔◌, ◌≢◌, ◌⊎◌, inl, inr}
use mathlib.Core.List.{List, [], ◌∷◌}
use Prim.Native.Nat.{ℕ, ◌+◌, ◌≤◌}
use native.Mathlib.Omega.{arith}
use lib.ListN.{length}
use borrow.Author.Tests.{ltb-false}
use Rattle.types.specs.declared.stage.Stage.{Stage}
use Rattle.types.specs.declared.stage.Stage.TheVariants.{Open, Found, Looped, Binate}
use Rattle.types.specs.declared.refusal.Refusal.{Refusal}
use Rattle.types.specs.Refusal.{number_of}
use Rattle.refusal.specs.Refusal.{Rule, Answered, checked, FirstBroken, NoneBroken, also}
use Rattle.refusal.proofs.RefusalLaws.{refused_first_broken, first_broken_refused, answered_none_broken, none_broken_answered}
use Rattle.job.specs.declared.job.Job.{Job}
use Rattle.job.specs.Machine.{run}
use Rattle.job.specs.Sound.{cap, Sound}
use Rattle.job.specs.Calls.{job_rules, budget_range, past_cap, if_open, carried}
use Rattle.job.proofs.MachineLaws.{found_ended, looped_ended, binate_ended, open_or_ended, run_zero, run_ended}
use Rattle.job.proofs.Soundness.{run_sound_from}
use Rattle.job.proofs.JobChecked.{job_others_kept}
use Rattle.codec.proofs.TableFieldLaws.{Held}
use Rattle.records.specs.declared.record.Record.{Record}
use Rattle.records.specs.Record.{record_bytes, read_record}
use Rattle.writers.specs.Calls.{written, lent}
use Rattle.claims.specs.Records.{ReadsBack}
use Rattle.claims.specs.Lists.{Call, carry_on_by, save_and_read, number, After, after_carry, after_read, after_save, called, of_open, call_rules, on_machine, or_left, machine_reply, accepted}
use Rattle.claims.proofs.Records.{lent_start}

-- no rule is broken, or one is the first broken
abbrev Judged : List Rule → Type 0
Judged rules = NoneBroken rules ⊎ ((e : Refusal) × FirstBroken e rules)

judged : (rules : List Rule) → Judged rules
judged rules = by (checked rules (Ok tt)) refl
  where
    by : (a : Answered (Unit {0})) → checked rules (Ok tt) ≡ a → Judged rules
    by (Ok x) e = inl (answered_none_broken rules tt x e).0
    by (Err n) e = inr (n, refused_first_broken rules tt n e)

-- ---- the machine's reply

-- a call that breaks no rule is accepted
reply_kept : (m : Job) (c : Call) → NoneBroken (call_rules m c) → machine_reply m c ≡ on_machine m c
reply_kept m c kept = ap (or_left m) (none_broken_answered (call_rules m c) (Ok (on_machine m c)) kept)

-- and the first broken rule gives its number
reply_broken : (m : Job) (c : Call) (e : Refusal) → FirstBroken e (call_rules m c) → machine_reply m c ≡ record { reply = number (number_of e) 0; job = m }
reply_broken m c e first = ap (or_left m) (first_broken_refused (call_rules m c) (Ok (on_machine m c)) e first)

-- an accepted call gives no number
accepted_no_number : (m : Job) (c : Call) (n : ℕ) → (on_machine m c).reply ≢ number n 0
accepted_no_number m (carry_on_by b) n e = cc
accepted_no_number m (save_and_read buffer) n e = cc

-- a call is refused exactly where the order gives a number
pub reply_number : (m : Job) (c : Call) (n : ℕ) → (machine_reply m c).reply ≡ number n 0 ↔ ((e : Refusal) × (number_of e ≡ n) × FirstBroken e (call_rules m c))
reply_number m c n = (by (judged (call_rules m c)), back)
  where
    by : Judged (call_rules m c) → (machine_reply m c).reply ≡ number n 0 → (e : Refusal) × (number_of e ≡ n) × FirstBroken e (call_rules m c)
    by (inl kept) is = absurd (accepted_no_number m c n (sym (ap (λ (a : After). a.reply) (reply_kept m c kept)) ∙ is))
    by (inr (e, broken)) is =
        let same : number (number_of e) 0 ≡ number n 0 = sym (ap (λ (a : After). a.reply) (reply_broken m c e broken)) ∙ is in
        (e, cc, broken)

    back : ((e : Refusal) × (number_of e ≡ n) × FirstBroken e (call_rules m c)) → (machine_reply m c).reply ≡ number n 0
    back (e, is, broken) = ap (λ (a : After). a.reply) (reply_broken m c e broken) ∙ ap (λ (i : ℕ). number i 0) is

-- ---- the accepted budget

-- the steps that a call asks of the machine
abbrev budget_of : Call → ℕ
budget_of (carry_on_by budget) = budget
budget_of (save_and_read buffer) = 0

-- a budget is accepted where no rule is broken
accepted_kept : (m : Job) (c : Call) → NoneBroken (call_rules m c) → accepted m c ≡ budget_of c
accepted_kept m (carry_on_by b) kept = rw (none_broken_answered (call_rules m (carry_on_by b)) (Ok (tt {0})) kept)
accepted_kept m (save_and_read buffer) kept = refl

-- and a refused call feeds nothing
accepted_broken : (m : Job) (c : Call) (n : Refusal) → FirstBroken n (call_rules m c) → accepted m c ≡ 0
accepted_broken m (carry_on_by b) n first = rw (first_broken_refused (call_rules m (carry_on_by b)) (Ok (tt {0})) n first)
accepted_broken m (save_and_read buffer) n first = refl

-- an accepted call runs the machine by its budget
on_machine_job : (m : Job) (c : Call) → (on_machine m c).job ≡ run (budget_of c) m
on_machine_job m (carry_on_by b) = refl
on_machine_job m (save_and_read buffer) = sym (run_zero m)

-- so the job of a reply is the machine's, run by the accepted budget
pub reply_job : (m : Job) (c : Call) → (machine_reply m c).job ≡ run (accepted m c) m
reply_job m c = by (judged (call_rules m c))
  where
    by : Judged (call_rules m c) → (machine_reply m c).job ≡ run (accepted m c) m
    by (inl kept) = ap (λ (a : After). a.job) (reply_kept m c kept) ∙ on_machine_job m c ∙ ap (λ (b : ℕ). run b m) (sym (accepted_kept m c kept))
    by (inr (n, first)) =
        ap (λ (a : After). a.job) (reply_broken m c n first) ∙ sym (run_zero m) ∙ ap (λ (b : ℕ). run b m) (sym (accepted_broken m c n first))

-- ---- a call keeps soundness

below_cap : (m : Job) (b : ℕ) → NoneBroken (budget_range b ∷ past_cap m b ∷ []) → m.state.k + b ≤ cap
below_cap m b (also range (also past kept)) = ltb-false cap (m.state.k + b) past

-- an accepted carry-on of an open job stays within the cap
carry_below : (m : Job) (b : ℕ) → m.state.stage ≡ Open → NoneBroken (call_rules m (carry_on_by b)) → m.state.k + b ≤ cap
carry_below m b e kept = below_cap m b (subst (λ (x : Stage). NoneBroken (budget_range b ∷ of_open x (past_cap m b ∷ []))) e (job_others_kept m kept))

-- the job of an accepted call is sound
kept_run_sound : (m : Job) (c : Call) → m.table.n ≤ 8 → Sound m → NoneBroken (call_rules m c) → Sound (run (budget_of c) m)
kept_run_sound m (save_and_read buffer) few sound kept = subst Sound (sym (run_zero m)) sound
kept_run_sound m (carry_on_by b) few sound kept = by (open_or_ended m.state.stage)
  where
    by : Dec (m.state.stage ≡ Open) → Sound (run b m)
    by (yes e) = run_sound_from m few sound b (carry_below m b e kept)
    by (no h) = subst Sound (sym (run_ended b m h)) sound

-- so is the job of any call
pub accepted_sound : (m : Job) (c : Call) → m.table.n ≤ 8 → Sound m → Sound (run (accepted m c) m)
accepted_sound m c few sound = by (judged (call_rules m c))
  where
    by : Judged (call_rules m c) → Sound (run (accepted m c) m)
    by (inl kept) = rw (accepted_kept m c kept) (kept_run_sound m c few sound kept)
    by (inr (n, first)) = rw (accepted_broken m c n first, run_zero m) sound

-- ---- the program's reply

-- carry-on, by the stage: the cap's rule stands last, and is asked of open jobs alone
carry_in : (x : Stage) (m : Job) (b : ℕ) → (x ≢ Open → run b m ≡ m)
    → checked (job_rules m (budget_range b ∷ [])) (if_open x (checked (past_cap m b ∷ []) (Ok (run b m))) (Ok m))
    ≡ checked (job_rules m (budget_range b ∷ of_open x (past_cap m b ∷ []))) (Ok (run b m))
carry_in Open m b same = refl
carry_in Found m b same = rw (same found_ended)
carry_in Looped m b same = rw (same looped_ended)
carry_in Binate m b same = rw (same binate_ended)

-- what an accepted carry-on returns: what the machine's K grows by, and its job
carried_is : (m : Job) (b : ℕ) → after_carry (carried m (Ok (run b m))) ≡ on_machine m (carry_on_by b)
carried_is m b = refl

-- a carry-on gives the machine's reply
carry_is : (m : Job) (b : ℕ) → called m (carry_on_by b) ≡ machine_reply m (carry_on_by b)
carry_is m b = by (judged rules)
  where
    rules : List Rule
    rules = call_rules m (carry_on_by b)

    by : Judged rules → called m (carry_on_by b) ≡ machine_reply m (carry_on_by b)
    by (inl kept) =
        ap (λ (a : Answered Job). after_carry (carried m a)) (carry_in m.state.stage m b (run_ended b m) ∙ none_broken_answered rules (Ok (run b m)) kept)
        ∙ carried_is m b
        ∙ sym (reply_kept m (carry_on_by b) kept)
    by (inr (n, first)) =
        ap (λ (a : Answered Job). after_carry (carried m a)) (carry_in m.state.stage m b (run_ended b m) ∙ first_broken_refused rules (Ok (run b m)) n first)
        ∙ sym (reply_broken m (carry_on_by b) n first)

module _ (read_back : (j : Job) → Held j.table → ReadsBack (Record'.Job j)) where
  -- a save gives the machine's: what is read back is the job saved
  save_is : (m : Job) (buffer : List ℕ) → Held m.table → called m (save_and_read buffer) ≡ machine_reply m (save_and_read buffer)
  save_is m buffer l = by (judged rules)
    where
      rules : List Rule
      rules = call_rules m (save_and_read buffer)

      bytes : List ℕ
      bytes = record_bytes (Record'.Job m)

      by : Judged rules → called m (save_and_read buffer) ≡ machine_reply m (save_and_read buffer)
      by (inl kept) =
          let save = none_broken_answered rules (Ok bytes) kept in
          ap (λ (a : Answered (List ℕ)). after_save m (lent buffer a) (written a)) save
          ∙ ap (λ (s : List ℕ). after_read m s (read_record s)) (lent_start buffer bytes)
          ∙ ap (λ (a : Answered Record). after_read m bytes a) (read_back m l (length buffer) bytes save)
          ∙ sym (reply_kept m (save_and_read buffer) kept)
      by (inr (n, first)) =
          ap (λ (a : Answered (List ℕ)). after_save m (lent buffer a) (written a)) (first_broken_refused rules (Ok bytes) n first)
          ∙ sym (reply_broken m (save_and_read buffer) n first)

  -- a call gives the machine's reply, and the machine's job
  pub called_is : (m : Job) (c : Call) → Held m.table → called m c ≡ machine_reply m c
  called_is m (carry_on_by b) l = carry_is m b
  called_is m (save_and_read buffer) l = save_is m buffer l
