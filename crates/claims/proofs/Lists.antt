-- Every list of calls from the fresh job of a table is the machine, by induction over the list from any sound job. The law that a saved
-- job is read back is a parameter. Assumes nothing.
use Rattle.records.specs.declared.record.Record.TheVariants as Record'
use Rattle.std.specs.Prelude.{Ok}
use mathlib.Core.Path.{◌≡◌, refl, sym, ◌∙◌, ap, subst}
use mathlib.Core.List.{List, [], ◌∷◌}
use Prim.Native.Nat.{◌≤◌}
use Rattle.types.specs.declared.table.Table.{Table}
use Rattle.refusal.specs.TableRules.{table_rules}
use Rattle.refusal.proofs.RefusalLaws.{answered_none_broken}
use Rattle.refusal.proofs.TableChecked.{kept_inputs}
use Rattle.job.specs.declared.job.Job.{Job}
use Rattle.job.specs.Machine.{run, fresh}
use Rattle.job.specs.Sound.{Sound}
use Rattle.job.specs.Calls.{fresh_job}
use Rattle.job.proofs.MachineLaws.{fresh_table, run_zero, run_add, run_table}
use Rattle.job.proofs.Soundness.{fresh_sound, run_grows}
use Rattle.codec.proofs.TableFieldLaws.{Held}
use Rattle.theory.proofs.Bound.{bound_on_k}
use Rattle.claims.specs.Records.{ReadsBack}
use Rattle.claims.specs.Lists.{Call, After, called, replies, after, machine_reply, machine_replies, accepted, fed, ListIsTheMachine, CallsAreTheMachine}
use Rattle.claims.proofs.Calls.{reply_number, reply_job, accepted_sound, called_is}

-- what every job of the walk is: of at most eight inputs, its table as code holds one, and sound
record Walks (j : Job) : Type 0 where
  few : j.table.n ≤ 8
  held : Held j.table
  sound : Sound j

-- the fresh job of a table begins the walk
fresh_walks : (t : Table) (j : Job) → Held t → fresh_job t ≡ Ok j → (fresh t ≡ j) × (t.n ≤ 8) × Walks j
fresh_walks t j l e =
    let made = answered_none_broken (table_rules t []) (fresh t) j e in
    let few = kept_inputs t made.0 in
    let walks : Walks (fresh t) = record { few = rw (fresh_table t) few; held = rw (fresh_table t) l; sound = fresh_sound t few } in
    (made.1, few, subst Walks made.1 walks)

-- a call goes on
walks_on : (j : Job) (c : Call) → Walks j → Walks (run (accepted j c) j)
walks_on j c w = record {
  few = rw (run_table (accepted j c) j) w.few;
  held = rw (run_table (accepted j c) j) w.held;
  sound = accepted_sound j c w.few w.sound;
}

module _ (read_back : (j : Job) → Held j.table → ReadsBack (Record'.Job j)) where
  -- the replies are the machine's, call for call
  same_replies : (cs : List Call) (j : Job) → Held j.table → replies j cs ≡ machine_replies j cs
  unfolding replies machine_replies
  same_replies [] j l = refl
  same_replies (c ∷ cs) j l =
      let held : Held (machine_reply j c).job.table = rw (reply_job j c, run_table (accepted j c) j) l in
      ap (λ (a : After). a ∷ replies a.job cs) (called_is read_back j c l)
      ∙ ap (λ (rest : List After). machine_reply j c ∷ rest) (same_replies cs (machine_reply j c).job held)

  -- after any list of calls the job is the machine's, and walks
  walk : (cs : List Call) (j : Job) → Walks j → (after j cs ≡ run (fed j cs) j) × Walks (run (fed j cs) j)
  unfolding after fed
  walk [] j w = (sym (run_zero j), subst Walks (sym (run_zero j)) w)
  walk (c ∷ cs) j w =
      let next : (called j c).job ≡ run (accepted j c) j = ap (λ (a : After). a.job) (called_is read_back j c w.held) ∙ reply_job j c in
      let rest = walk cs (run (accepted j c) j) (walks_on j c w) in
      let both = sym (run_add (accepted j c) (fed (run (accepted j c) j) cs) j) in
      (ap (λ (i : Job). after i cs) next ∙ rest.0 ∙ both, subst Walks both rest.1)

  -- every list of calls from the fresh job of a table is the machine
  pub calls_are_the_machine : (t : Table) → Held t → CallsAreTheMachine t
  calls_are_the_machine t l = record { list = list; refusal = reply_number; grows = λ m b. run_grows m b }
    where
      list : (j : Job) → fresh_job t ≡ Ok j → (cs : List Call) → ListIsTheMachine t j cs
      list j e cs =
          let start = fresh_walks t j l e in
          let walked = walk cs j start.2 in
          record {
            replied = same_replies cs j start.2.held;
            job = walked.0;
            sound = subst Sound (sym walked.0) walked.1.sound;
            bound = λ ws th h g. rw (walked.0, ← start.0) (bound_on_k t (fed (fresh t) cs) ws th start.1 h g);
          }
