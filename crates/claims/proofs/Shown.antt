-- What a job shows is right, for any job that is not refused: it is sound, and soundness gives the rest. Assumes nothing.
use Rattle.std.specs.Prelude.{Ok}
use mathlib.Core.Path.{◌≡◌, refl, sym, ◌∙◌, ap, subst}
use mathlib.Core.Bool.{true}
use mathlib.Core.Logic.{◌⊎◌, inl, inr}
use mathlib.Core.List.{List, []}
use Prim.Native.Nat.{ℕ}
use native.Mathlib.Omega.{arith}
use lib.IntN.{ℤ}
use Rattle.refusal.proofs.TableChecked.{kept_inputs, table_kept}
use Rattle.function.specs.Gate.{Realises}
use Rattle.refusal.specs.Refusal.{NoneBroken}
use Rattle.cell.specs.Calls.{check_gate, check_witness}
use Rattle.refusal.specs.TableRules.{table_rules}
use Rattle.refusal.proofs.RefusalLaws.{answered_none_broken}
use Rattle.job.specs.declared.job.Job.{Job}
use Rattle.types.specs.declared.stage.Stage.{Stage}
use Rattle.types.specs.declared.stage.Stage.TheVariants.{Open, Found, Looped, Binate}
use Rattle.job.specs.Sound.{Sound}
use Rattle.job.specs.Calls.{job_rules, gate_of, witness_of}
use Rattle.job.proofs.JobChecked.{kept_sound}
use Rattle.view.specs.declared.shown.Verdict.{Verdict}
use Rattle.types.specs.declared.gate.Gate.{Gate}
use Rattle.types.specs.declared.witness.Witness.{Witness}
use Rattle.view.specs.declared.shown.Verdict.TheVariants as Verdict'
use Rattle.view.specs.Calls.{show_job, shown_in}
use Rattle.theory.proofs.Answers.{EndedWithout, found_realises, found_accepted, ended_accepted, ended_excludes}
use Rattle.table.specs.Table.{function_of}

-- a job that is shown is sound, and its table is not refused
module _ (j : Job) (s : Verdict) (e : show_job j ≡ Ok s) where
  parts : NoneBroken (job_rules j []) × (shown_in j.state.stage j ≡ s)
  parts = answered_none_broken (job_rules j []) (shown_in j.state.stage j) s e

  sound : Sound j
  sound = kept_sound j parts.0

  taken : NoneBroken (table_rules j.table [])
  taken = table_kept j.table parts.0

-- the stage that a verdict comes from
gate_stage : (x : Stage) (j : Job) (g : Gate) → shown_in x j ≡ Verdict'.Gate g → (x ≡ Found) × (gate_of j ≡ g)
gate_stage Open j g v = cc
gate_stage Found j g v = (refl, cc)
gate_stage Looped j g v = cc
gate_stage Binate j g v = cc

witness_stage : (x : Stage) (j : Job) (w : Witness) → shown_in x j ≡ Verdict'.Witness w → ((x ≡ Looped) ⊎ (x ≡ Binate)) × (witness_of j ≡ w)
witness_stage Open j w v = cc
witness_stage Found j w v = cc
witness_stage Looped j w v = (inl refl, cc)
witness_stage Binate j w v = (inr refl, cc)

module _ (j : Job) (g : Gate) (e : show_job j ≡ Ok (Verdict'.Gate g)) where
  found : (j.state.stage ≡ Found) × (gate_of j ≡ g)
  found = gate_stage j.state.stage j g (parts j (Verdict'.Gate g) e).1

  -- a gate that is shown realises the table
  pub shown_gate : Realises g.weights g.threshold (function_of j.table)
  shown_gate = subst (λ g. Realises g.weights g.threshold (function_of j.table)) found.1 (found_realises j (sound j _ e) found.0)

  -- and is accepted by the checker
  pub shown_gate_accepted : check_gate j.table g ≡ Ok true
  shown_gate_accepted = ap (check_gate j.table) (sym found.1) ∙ found_accepted j (sound j _ e) (taken j _ e) found.0

module _ (j : Job) (w : Witness) (e : show_job j ≡ Ok (Verdict'.Witness w)) where
  ended : EndedWithout j × (witness_of j ≡ w)
  ended = witness_stage j.state.stage j w (parts j (Verdict'.Witness w) e).1

  -- a witness that is shown is accepted by the checker
  pub shown_witness_accepted : check_witness j.table w ≡ Ok true
  shown_witness_accepted = ap (check_witness j.table) (sym ended.1) ∙ ended_accepted j (sound j _ e) (taken j _ e) ended.0

  -- and excludes every gate
  pub shown_excludes : (ws : List ℤ) (th : ℤ) → ¬ Realises ws th (function_of j.table)
  shown_excludes = ended_excludes j (kept_inputs j.table (taken j _ e)) (sound j _ e) ended.0
