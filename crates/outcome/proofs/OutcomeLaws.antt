-- What a job has come to, as a record: the gate or witness of a sound job keeps the ranges of 7 and 8, and an open one can be saved, so
-- that the call that writes it refuses for a row that is not cared for, where the job has ended, and for its room alone. And it takes at most
-- 2,048 bytes. Assumes nothing.
use Rattle.records.specs.declared.record.Record.TheVariants as Record'
use Rattle.types.specs.declared.refusal.Refusal.TheVariants as Refusal'
use Rattle.std.specs.Prelude.{Ok}
use mathlib.Core.Path.{◌≡◌, sym, ◌∙◌, ap}
use mathlib.Core.Bool.{true}
use mathlib.Core.Logic.{inl, inr}
use mathlib.Core.List.{List, [], ◌∷◌}
use Prim.Native.Nat.{ℕ, ◌≤◌}
use lib.ListN.{length}
use Rattle.function.specs.Gate.{realises}
use Rattle.function.specs.Witness.{count_of, balances}
use Rattle.types.specs.declared.table.Table.{Table}
use Rattle.types.specs.declared.gate.Gate.{Gate}
use Rattle.types.specs.declared.witness.Witness.{Witness}
use Rattle.table.specs.Table.{function_of}
use Rattle.refusal.specs.Refusal.{Rule, Answered, refuse_if, checked, NoneBroken, also}
use Rattle.cell.specs.Calls.{other_inputs, gate_range, witness_range, check_gate_rules, check_witness_rules}
use Rattle.refusal.specs.TableRules.{table_rules}
use Rattle.refusal.proofs.RefusalLaws.{answered_none_broken, none_broken_answered, rule_kept}
use Rattle.refusal.proofs.TableChecked.{table_kept, others_kept}
use Rattle.job.specs.declared.job.Job.{Job}
use Rattle.types.specs.declared.stage.Stage.{Stage}
use Rattle.types.specs.declared.stage.Stage.TheVariants.{Open, Found, Looped, Binate}
use Rattle.job.specs.Calls.{job_rules, is_ended, gate_of, witness_of}
use Rattle.job.proofs.JobChecked.{kept_sound}
use Rattle.theory.proofs.Answers.{EndedWithout, found_accepted, ended_accepted}
use Rattle.records.specs.Record.{record_bytes}
use Rattle.writers.specs.Calls.{has_ended, uncared_row, too_short, fitted, write_record}
use Rattle.bodies.proofs.BodyLaws.{record_most}
use Rattle.outcome.specs.Outcome.{outcome_in, outcome, written_in, outcome_written}

-- ---- the rules that are left

-- a gate and a witness that the checker takes keep the rules of a writer but one: a row of the table is not cared for
gate_left : {A : Type 0} (t : Table) (g : Gate) (u : Rule) (rest : List Rule) (next : Answered A) → NoneBroken (check_gate_rules t g)
    → checked (other_inputs t g ∷ table_rules t (u ∷ gate_range g ∷ rest)) next ≡ checked (u ∷ rest) next
gate_left t g u rest next (also same kept) =
    none_broken_answered (other_inputs t g ∷ table_rules t []) (checked (u ∷ gate_range g ∷ rest) next) (also same (table_kept t kept))
    ∙ ap (refuse_if u.broken u.refusal) (none_broken_answered (gate_range g ∷ []) (checked rest next) (others_kept t kept))

witness_left : {A : Type 0} (t : Table) (w : Witness) (u : Rule) (rest : List Rule) (next : Answered A) → NoneBroken (check_witness_rules t w)
    → checked (table_rules t (u ∷ witness_range t w ∷ rest)) next ≡ checked (u ∷ rest) next
witness_left t w u rest next kept =
    none_broken_answered (table_rules t []) (checked (u ∷ witness_range t w ∷ rest) next) (table_kept t kept)
    ∙ ap (refuse_if u.broken u.refusal) (none_broken_answered (witness_range t w ∷ []) (checked rest next) (others_kept t kept))

-- ---- by the stage

module _ (j : Job) (kept : NoneBroken (job_rules j [])) (room : ℕ) where
  -- what is written is what the stage says
  by_stage : {x : Stage} → j.state.stage ≡ x → written_in room x j ≡ outcome_written room j
  by_stage e = ap (λ (x : Stage). written_in room x j) (sym e)

  -- a found job's gate is refused for a row that is not cared for, and for its room alone
  pub found_written : j.state.stage ≡ Found → write_record (Record'.Gate j.table (gate_of j)) room ≡ outcome_written room j
  found_written e =
      let x = Record'.Gate j.table (gate_of j) in
      let accepted = found_accepted j (kept_sound j kept) (table_kept j.table kept) e in
      let rules = check_gate_rules j.table (gate_of j) in
      gate_left j.table (gate_of j) (uncared_row j.table) (too_short room (record_bytes x) ∷ []) (Ok (record_bytes x))
      (answered_none_broken rules (realises j.state.v.a j.state.v.b (function_of j.table)) true accepted).0
      ∙ by_stage e

  ended_written : EndedWithout j → let x = Record'.Witness j.table (witness_of j) in
      write_record x room ≡ checked (uncared_row j.table ∷ []) (fitted room (record_bytes x))
  ended_written e =
      let x = Record'.Witness j.table (witness_of j) in
      let accepted = ended_accepted j (kept_sound j kept) (table_kept j.table kept) e in
      let rules = check_witness_rules j.table (witness_of j) in
      witness_left j.table (witness_of j) (uncared_row j.table) (too_short room (record_bytes x) ∷ []) (Ok (record_bytes x))
      (answered_none_broken rules (balances (function_of j.table) (count_of j.state.counts)) true accepted).0

  -- so is the witness of a job that ended without one
  pub looped_written : j.state.stage ≡ Looped → write_record (Record'.Witness j.table (witness_of j)) room ≡ outcome_written room j
  looped_written e = ended_written (inl e) ∙ by_stage e

  pub binate_written : j.state.stage ≡ Binate → write_record (Record'.Witness j.table (witness_of j)) room ≡ outcome_written room j
  binate_written e = ended_written (inr e) ∙ by_stage e

  -- and an open job for its room alone
  pub open_written : j.state.stage ≡ Open → write_record (Record'.Job j) room ≡ outcome_written room j
  open_written e =
      let short = too_short room (record_bytes (Record'.Job j)) ∷ [] in
      let bytes = Ok (record_bytes (Record'.Job j)) in
      none_broken_answered (job_rules j []) (checked (has_ended j ∷ short) bytes) kept
      ∙ sym (rule_kept Refusal'.Ended short bytes (ap is_ended e))
      ∙ by_stage e

-- ---- lengths

-- what a job has come to takes at most 2,048 bytes
pub outcome_most : (j : Job) → j.table.n ≤ 8 → length (record_bytes (outcome j)) ≤ 2048
outcome_most j n = by j.state.stage
  where
    by : (x : Stage) → length (record_bytes (outcome_in x j)) ≤ 2048
    by Open = record_most (Record'.Job j) n
    by Found = record_most (Record'.Gate j.table (gate_of j)) n
    by Looped = record_most (Record'.Witness j.table (witness_of j)) n
    by Binate = record_most (Record'.Witness j.table (witness_of j)) n
