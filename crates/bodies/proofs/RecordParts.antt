-- A record as its kind byte, its table and the rest, and what its rules say of its parts. Assumes nothing.
use Rattle.records.specs.declared.record.Record.TheVariants as Record'
use mathlib.Core.Path.{◌≡◌, refl, sym, ◌∙◌}
use mathlib.Core.Logic.{◌≢◌}
use mathlib.Core.Bool.{Bool, true, false, not, ◌||◌}
use mathlib.Core.List.{List, [], ◌∷◌, ◌++◌, append-nil}
use Prim.Native.Nat.{ℕ, ◌≤◌, ◌<◌}
use native.Mathlib.Omega.{arith}
use lib.ListN.{length, drop}
use borrow.Author.Tests.{eqb-true, not-false}
use Rattle.numbers.specs.Tests.{all_at_most}
use Rattle.numbers.proofs.TestLaws.{no_true, all_at_most_from}
use Rattle.types.specs.declared.table.Table.{Table}
use Rattle.types.specs.declared.gate.Gate.{Gate}
use Rattle.types.specs.declared.witness.Witness.{Witness}
use Rattle.table.specs.Table.{rows, spare_set}
use Rattle.table.specs.Gate.{weight_limit, in_range}
use Rattle.table.specs.Witness.{unfit, count_limit}
use Rattle.function.proofs.RangeLaws.{in_range_correct, in_range_wider}
use Rattle.job.specs.declared.job.Job.{Job}
use Rattle.types.specs.declared.stage.Stage.TheVariants.{Open, Binate}
use Rattle.job.specs.Sound.{cap, Sound}
use Rattle.job.proofs.MachineLaws.{binate_ended}
use Rattle.job.proofs.SoundLaws.{sound_current, sound_copied, sound_count}
use Rattle.codec.specs.VectorField.{vector_bytes}
use Rattle.codec.specs.RowList.{row_list_bytes}
use Rattle.refusal.specs.Refusal.{Rule, NoneBroken, also}
use Rattle.cell.specs.Calls.{gate_range, gate_rules, witness_range, witness_rules}
use Rattle.refusal.specs.TableRules.{table_rules}
use Rattle.refusal.proofs.TableChecked.{kept_cares, others_kept}
use Rattle.codec.specs.Kind.{head_kind}
use Rattle.codec.specs.TableField.{table_bytes}
use Rattle.codec.proofs.TableFieldLaws.{Held}
use Rattle.records.specs.declared.record.Record.{Record}
use Rattle.records.specs.Record.{table_in, head_in, gate_vector, job_bytes, body_bytes, record_bytes}

-- the arrays of a record are as those of the code's types, as every value of those types has them; a sound job's others are part of
-- soundness
abbrev pub Shaped : Record → Type 0
Shaped (Record'.Table t) = Held t
Shaped (Record'.Gate t g) = Held t × (length g.weights ≡ 8)
Shaped (Record'.Witness t w) = Held t × (length w.counts ≡ 256)
Shaped (Record'.Job j) = Held j.table

pub held : (x : Record) → Shaped x → Held (table_in x)
held (Record'.Table t) h = h
held (Record'.Gate t g) (h, weights) = h
held (Record'.Witness t w) (h, counts) = h
held (Record'.Job j) h = h

-- what follows the table that a record begins with
abbrev pub rest_bytes : Record → List ℕ
rest_bytes (Record'.Table t) = []
rest_bytes (Record'.Gate t g) = vector_bytes t.n (gate_vector g)
rest_bytes (Record'.Witness t w) = row_list_bytes w.counts
rest_bytes (Record'.Job j) = job_bytes j

-- a record is its kind byte and its body, and a body is the table and the rest
pub kind_and_body : (x : Record) → record_bytes x ≡ (head_kind (head_in x) ∷ []) ++ body_bytes x
unfolding record_bytes
kind_and_body x = refl

pub body_parts : (x : Record) → body_bytes x ≡ table_bytes (table_in x) ++ rest_bytes x
unfolding body_bytes
body_parts (Record'.Table t) = sym (append-nil (table_bytes t))
body_parts (Record'.Gate t g) = refl
body_parts (Record'.Witness t w) = refl
body_parts (Record'.Job j) = refl

-- a witness that keeps its ranges is not unfit
pub fit_from : (a b c : Bool) → a ≡ false → b ≡ true → c ≡ true → (a || not b || not c) ≡ false
fit_from a b c p q r = rw (p, q, r)

-- what a witness that is not unfit keeps
pub record Fit (t : Table) (w : Witness) : Type 0 where
  pub some : all_at_most 0 w.counts ≡ false
  pub limit : all_at_most count_limit w.counts ≡ true
  pub past : all_at_most 0 (drop (rows t) w.counts) ≡ true

fit_parts : (a b c : Bool) → (a || not b || not c) ≡ false → (a ≡ false) × (b ≡ true) × (c ≡ true)
fit_parts false true true e = (refl, refl, refl)
fit_parts false true false e = absurd (no_true (sym e))
fit_parts false false c e = absurd (no_true (sym e))
fit_parts true b c e = absurd (no_true (sym e))

pub fit : (t : Table) (w : Witness) → unfit t w ≡ false → Fit t w
unfolding unfit
fit t w e =
    let parts = fit_parts (all_at_most 0 w.counts) (all_at_most count_limit w.counts) (all_at_most 0 (drop (rows t) w.counts)) e in
    record { some = parts.0; limit = parts.1; past = parts.2 }

-- ---- what the rules of a gate and of a witness, where they are kept, say of them

pub same_inputs : (t : Table) (g : Gate) {others : List Rule} → NoneBroken (gate_rules t g others) → (g.n ≡ t.n) × NoneBroken (table_rules t (gate_range g ∷ others))
same_inputs t g (also b rest) = (eqb-true g.n t.n (not-false _ b), rest)

-- the table's care bits have no spare one
pub gate_cares : (t : Table) (g : Gate) {others : List Rule} → NoneBroken (gate_rules t g others) → spare_set t.n t.cares ≡ false
gate_cares t g kept = kept_cares t (same_inputs t g kept).1

in_limits : (g : Gate) {others : List Rule} → NoneBroken (gate_range g ∷ others) → in_range weight_limit g.n g.weights g.threshold ≡ true
in_limits g (also b rest) = not-false _ b

pub gate_in_limits : (t : Table) (g : Gate) {others : List Rule} → NoneBroken (gate_rules t g others) → in_range weight_limit g.n g.weights g.threshold ≡ true
gate_in_limits t g kept = in_limits g (others_kept t (same_inputs t g kept).1)

fits : (t : Table) (w : Witness) {others : List Rule} → NoneBroken (witness_range t w ∷ others) → Fit t w
fits t w (also b rest) = fit t w b

pub witness_fits : (t : Table) (w : Witness) {others : List Rule} → NoneBroken (witness_rules t w others) → Fit t w
witness_fits t w kept = fits t w (others_kept t kept)

-- ---- a job that can be saved

-- what a sound open job's fields keep, as they are written and read
pub record Savable (j : Job) : Type 0 where
  pub few : j.state.k < 2097152
  pub current : in_range weight_limit j.table.n j.state.v.a j.state.v.b ≡ true
  pub copied : in_range weight_limit j.table.n j.state.s.a j.state.s.b ≡ true
  pub limit : all_at_most count_limit j.state.counts ≡ true

pub savable : (j : Job) → Sound j → j.state.stage ≡ Open → Savable j
savable j sound e =
    let capped : j.state.k ≤ cap = sound.capped in
    let not-binate : j.state.stage ≢ Binate = λ b. binate_ended (sym b ∙ e) in
    record {
      few = omega arith;
      current = (in_range_correct weight_limit _ j.state.v.a j.state.v.b).1 (in_range_wider weight_limit (omega arith) (sound_current sound));
      copied = (in_range_correct weight_limit _ j.state.s.a j.state.s.b).1 (in_range_wider weight_limit (omega arith) (sound_copied sound));
      limit = all_at_most_from count_limit j.state.counts (λ r h. omega (arith, sound_count j sound not-binate r));
    }
