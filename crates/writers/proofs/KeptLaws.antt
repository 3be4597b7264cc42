-- What the rules of a record, where they are kept, say of it. Assumes nothing.
use Rattle.records.specs.declared.record.Record.TheVariants as Record'
use mathlib.Core.Path.{◌≡◌, ap}
use mathlib.Core.Bool.{true, false, not}
use mathlib.Core.List.{List, [], ◌∷◌}
use Prim.Native.Nat.{◌≤◌}
use borrow.Author.Tests.{not-false}
use Rattle.types.specs.declared.table.Table.{Table}
use Rattle.types.specs.declared.gate.Gate.{Gate}
use Rattle.types.specs.declared.witness.Witness.{Witness}
use Rattle.types.specs.declared.stage.Stage.TheVariants.{Open}
use Rattle.table.specs.Table.{is_whole}
use Rattle.refusal.specs.Refusal.{Rule, NoneBroken, none, also}
use Rattle.cell.specs.Calls.{gate_rules, witness_rules}
use Rattle.refusal.specs.TableRules.{table_rules}
use Rattle.refusal.proofs.TableChecked.{kept_inputs, table_kept, others_kept, all_kept}
use Rattle.job.specs.declared.job.Job.{Job}
use Rattle.job.specs.Calls.{job_rules}
use Rattle.job.proofs.JobChecked.{kept_sound, job_others_kept, job_all_kept}
use Rattle.job.proofs.MachineLaws.{open_stage}
use Rattle.job.proofs.SoundLaws.{is_sound_correct}
use Rattle.codec.specs.Kind.{Head, Gates, Witnesses}
use Rattle.records.specs.declared.record.Record.{Record}
use Rattle.records.specs.Record.{table_in, head_in}
use Rattle.writers.specs.Calls.{has_ended, uncared_row, record_rules}

-- a record keeps its rules
abbrev pub Kept : Record → Type 0
Kept x = NoneBroken (record_rules x [])

-- so its table keeps those of a table
pub kept_table : (x : Record) (others : List Rule) → NoneBroken (record_rules x others) → NoneBroken (table_rules (table_in x) [])
kept_table (Record'.Table t) others kept = table_kept t kept
kept_table (Record'.Gate t g) others (also same kept) = table_kept t kept
kept_table (Record'.Witness t w) others kept = table_kept t kept
kept_table (Record'.Job j) others kept = table_kept j.table kept

-- and has at most eight inputs
pub kept_few : (x : Record) → Kept x → (table_in x).n ≤ 8
kept_few x kept = kept_inputs (table_in x) (kept_table x [] kept)

-- ---- a gate or a witness: the rules of the cell, and every row of the table cared for

every_row_lem : (t : Table) {others : List Rule} → NoneBroken (uncared_row t ∷ others) → (is_whole t ≡ true) × NoneBroken others
every_row_lem t (also b rest) = (not-false _ b, rest)

pub kept_gate : (t : Table) (g : Gate) (others : List Rule) → NoneBroken (record_rules (Record'.Gate t g) others) → NoneBroken (gate_rules t g others)
kept_gate t g others (also same kept) = also same (all_kept t (table_kept t kept) (every_row_lem t (others_kept t kept)).1)

gate_whole : (t : Table) (g : Gate) (others : List Rule) → NoneBroken (record_rules (Record'.Gate t g) others) → is_whole t ≡ true
gate_whole t g others (also same kept) = (every_row_lem t (others_kept t kept)).0

pub kept_witness : (t : Table) (w : Witness) (others : List Rule) → NoneBroken (record_rules (Record'.Witness t w) others) → NoneBroken (witness_rules t w others)
kept_witness t w others kept = all_kept t (table_kept t kept) (every_row_lem t (others_kept t kept)).1

witness_whole : (t : Table) (w : Witness) (others : List Rule) → NoneBroken (record_rules (Record'.Witness t w) others) → is_whole t ≡ true
witness_whole t w others kept = (every_row_lem t (others_kept t kept)).0

-- what a kind byte says where no care bytes stand before a gate or a witness
pub record Plain (h : Head) : Type 0 where
  pub gate : h.family ≡ Gates → h.cares ≡ false
  pub witness : h.family ≡ Witnesses → h.cares ≡ false

pub kept_plain : (x : Record) (others : List Rule) → NoneBroken (record_rules x others) → Plain (head_in x)
kept_plain (Record'.Table t) others kept = record { gate = λ e. cc; witness = λ e. cc }
kept_plain (Record'.Gate t g) others kept = record { gate = λ e. ap not (gate_whole t g others kept); witness = λ e. cc }
kept_plain (Record'.Witness t w) others kept = record { gate = λ e. cc; witness = λ e. ap not (witness_whole t w others kept) }
kept_plain (Record'.Job j) others kept = record { gate = λ e. cc; witness = λ e. cc }

-- ---- a job

-- one that has not ended is open
is_open : (j : Job) {others : List Rule} → NoneBroken (has_ended j ∷ others) → j.state.stage ≡ Open
is_open j (also b rest) = open_stage j.state.stage b

pub kept_open : (j : Job) (others : List Rule) → NoneBroken (record_rules (Record'.Job j) others) → j.state.stage ≡ Open
kept_open j others kept = is_open j {others = others} (job_others_kept j {others = has_ended j ∷ others} kept)

-- and keeps its own rules
pub kept_job : (j : Job) → Kept (Record'.Job j) → NoneBroken (job_rules j [])
kept_job j kept = job_all_kept j (table_kept j.table kept) ((is_sound_correct j).1 (kept_sound j kept)) none
