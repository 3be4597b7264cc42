-- Reading what was written gives the same record: each body, wherever it stands, and the whole. Assumes nothing.
use Rattle.records.specs.declared.record.Record.TheVariants as Record'
use Rattle.std.specs.Prelude.{Ok}
use Rattle.types.specs.declared.refusal.Refusal.TheVariants as Refusal'
use mathlib.Core.Path.{◌≡◌, refl, sym, ◌∙◌, ap, subst}
use mathlib.Core.Bool.{Bool, true, false, not}
use mathlib.Core.List.{List, [], ◌∷◌, ◌++◌}
use Prim.Native.Nat.{ℕ, ◌+◌, ◌≤◌}
use native.Mathlib.Omega.{arith}
use lib.ListN.{length}
use borrow.Author.Tests.{le-ltb}
use Rattle.numbers.proofs.TestLaws.{no_true}
use Rattle.types.specs.declared.table.Table.{Table}
use Rattle.types.specs.declared.gate.Gate.{Gate}
use Rattle.types.specs.declared.witness.Witness.{Witness}
use Rattle.table.specs.Table.{rows}
use Rattle.table.specs.Gate.{weight_limit, in_range}
use Rattle.table.proofs.TableLaws.{rows_le}
use Rattle.refusal.specs.Refusal.{Rule, rule, Answered, checked, NoneBroken}
use Rattle.cell.specs.Calls.{gate_rules, witness_rules}
use Rattle.refusal.proofs.RefusalLaws.{answered_none_broken}
use Rattle.refusal.proofs.TableChecked.{kept_inputs}
use Rattle.types.specs.declared.vector.Vector.{Vector}
use Rattle.job.specs.declared.job.Job.{Job}
use Rattle.types.specs.declared.stage.Stage.{Stage}
use Rattle.types.specs.declared.stage.Stage.TheVariants.{Open}
use Rattle.numbers.specs.Power.{highest}
use Rattle.job.specs.Sound.{Sound, is_sound, mark_for}
use Rattle.job.proofs.SoundLaws.{is_sound_correct}
use Rattle.job.proofs.JobChecked.{kept_sound}
use Rattle.codec.specs.Field.{field, Reading, onward}
use Rattle.codec.specs.Number.{number_bytes}
use Rattle.codec.specs.VectorField.{vector_bytes, vector_at}
use Rattle.codec.specs.RowList.{RowList, row_list_bytes}
use Rattle.codec.specs.Kind.{Head, head_kind, every_kind}
use Rattle.codec.specs.TableField.{table_bytes}
use Rattle.codec.proofs.StandsLaws.{Stands, stands_front, stands_back, stands_head, stands_self, after_both}
use Rattle.codec.proofs.NumberLaws.{number_read}
use Rattle.codec.proofs.VectorFieldLaws.{vector_read}
use Rattle.codec.proofs.RowListRead.{rows_read}
use Rattle.codec.proofs.KindLaws.{every_taken, kind_read}
use Rattle.codec.proofs.TableFieldLaws.{table_read_lem}
use Rattle.records.specs.declared.record.Record.{Record}
use Rattle.records.specs.Record.{family, table_in, head_in, gate_vector, vector_gate, job_bytes, body_bytes, record_bytes, gate_at, witness_at, open_job, unsound_job, counts_at, job_at, rest_at, body_at, bytes_left, record_at, single_at, read_record}
use Rattle.writers.specs.Calls.{too_short, record_rules, write_record}
use Rattle.bodies.proofs.RecordParts.{Shaped, held, rest_bytes, kind_and_body, body_parts, same_inputs, gate_in_limits, witness_fits, savable}
use Rattle.bodies.proofs.BodyLaws.{job_bytes_lem, job_count}
use Rattle.writers.proofs.KeptLaws.{kept_table, kept_gate, kept_witness, kept_plain, kept_open}

-- ---- read after write

-- a gate comes back from its vector, and a sound open job from its numbers
gate_back : (n : ℕ) (g : Gate) → g.n ≡ n → vector_gate n (gate_vector g) ≡ g
gate_back n g e = subst (λ (m : ℕ). vector_gate m (gate_vector g) ≡ g) e refl

job_back : (j : Job) → Sound j → j.state.stage ≡ Open → open_job j.table j.state.k j.state.v j.state.s j.state.counts ≡ j
job_back j sound e =
    let mark : highest j.state.k ≡ j.state.mark = sym (sound.mark ∙ ap (λ (x : Stage). mark_for x j.state.k) e) in
    λ x. record { table = j.table; state = record { k = j.state.k; v = j.state.v; mark = mark x; s = j.state.s; counts = j.state.counts; stage = sym e x } }

-- what follows s in a job's record, and the whole job's part, read where they stand
module _ (j : Job) (few : j.table.n ≤ 8) (sound : Sound j) (opened : j.state.stage ≡ Open) (s : List ℕ) where
  counts_read_lem : (at : ℕ) → Stands s at (row_list_bytes j.state.counts) → counts_at j.table j.state.k j.state.v j.state.s s at ≡ Ok (field (Record'.Job j) (at + length (row_list_bytes j.state.counts)))
  counts_read_lem at stands =
      let next = at + length (row_list_bytes j.state.counts) in
      ap (λ (r : Reading RowList). onward r (λ list q. checked (unsound_job list (open_job j.table j.state.k j.state.v j.state.s list.counts) ∷ []) (Ok (field (Record'.Job (open_job j.table j.state.k j.state.v j.state.s list.counts)) q))))
      (rows_read false (rows j.table) j.state.counts s at (rows_le few) sound.shaped.counts (savable j sound opened).limit sound.past (λ e. absurd (no_true e)) stands)
      ∙ ap (λ (i : Job). checked (rule Refusal'.Unsound (not (is_sound i)) ∷ []) (Ok (field (Record'.Job i) next))) (job_back j sound opened)
      ∙ ap (λ (b : Bool). checked (rule Refusal'.Unsound (not b) ∷ []) (Ok (field (Record'.Job j) next))) ((is_sound_correct j).1 sound)

  job_read_lem : (at : ℕ) → Stands s at (job_bytes j) → job_at j.table s at ≡ Ok (field (Record'.Job j) (at + length (job_bytes j)))
  job_read_lem at stands =
      let n = j.table.n in
      let keeps = savable j sound opened in
      let number = number_bytes j.state.k in
      let current = vector_bytes n j.state.v in
      let copied = vector_bytes n j.state.s in
      let counts = row_list_bytes j.state.counts in
      let fields = subst (Stands s at) (job_bytes_lem j) stands in
      let after_number = stands_back s at number (current ++ (copied ++ counts)) fields in
      let after-current = stands_back s (at + length number) current (copied ++ counts) after_number in
      let after-copied = stands_back s (at + length number + length current) copied counts after-current in
      let first = number_read s at j.state.k keeps.few (stands_front s at number (current ++ (copied ++ counts)) fields) in
      let second = vector_read false n j.state.v s (at + length number) few sound.shaped.weights keeps.current (stands_front s (at + length number) current (copied ++ counts) after_number) in
      let third = vector_read false n j.state.s s (at + length number + length current) few sound.shaped.copied keeps.copied (stands_front s (at + length number + length current) copied counts after-current) in
      ap (λ (r : Reading ℕ). onward r (λ k p. onward (vector_at false n s p) (λ v q. onward (vector_at false n s q) (λ w e. counts_at j.table k v w s e)))) first
      ∙ ap (λ (r : Reading Vector). onward r (λ v q. onward (vector_at false n s q) (λ w e. counts_at j.table j.state.k v w s e))) second
      ∙ ap (λ (r : Reading Vector). onward r (λ w e. counts_at j.table j.state.k j.state.v w s e)) third
      ∙ counts_read_lem (at + length number + length current + length copied) after-copied
      ∙ ap (λ (next : ℕ). Ok (field (Record'.Job j) next)) (omega (arith, job_count j))

-- the numbers of a gate, and the counts of a witness, read where they stand
gate_read_lem : (t : Table) (g : Gate) {others : List Rule} → length g.weights ≡ 8 → NoneBroken (gate_rules t g others) → (s : List ℕ) (at : ℕ)
    → Stands s at (vector_bytes t.n (gate_vector g)) → gate_at t s at ≡ Ok (field (Record'.Gate t g) (at + length (vector_bytes t.n (gate_vector g))))
gate_read_lem t g eight kept s at stands =
    let same = same_inputs t g kept in
    let range : in_range weight_limit t.n g.weights g.threshold ≡ true =
    subst (λ (n : ℕ). in_range weight_limit n g.weights g.threshold ≡ true) same.0 (gate_in_limits t g kept) in
    ap (λ (r : Reading Vector). onward r (λ v next. Ok (field (Record'.Gate t (vector_gate t.n v)) next))) (vector_read true t.n (gate_vector g) s at (kept_inputs t same.1) eight range stands)
    ∙ ap (λ (h : Gate). Ok (field (Record'.Gate t h) (at + length (vector_bytes t.n (gate_vector g))))) (gate_back t.n g same.0)

witness_read : (t : Table) (w : Witness) {others : List Rule} → length w.counts ≡ 256 → NoneBroken (witness_rules t w others) → (s : List ℕ) (at : ℕ)
    → Stands s at (row_list_bytes w.counts) → witness_at t s at ≡ Ok (field (Record'.Witness t w) (at + length (row_list_bytes w.counts)))
witness_read t w full kept s at stands =
    let fit = witness_fits t w kept in
    ap (λ (r : Reading RowList). onward r (λ list next. Ok (field (Record'.Witness t (record { counts = list.counts })) next)))
    (rows_read true (rows t) w.counts s at (rows_le (kept_inputs t kept)) full fit.limit fit.past (λ e. fit.some) stands)

-- what follows the table, read where it stands, by the family
rest_read : (x : Record) (others : List Rule) → Shaped x → NoneBroken (record_rules x others) → (s : List ℕ) (at : ℕ) → Stands s at (rest_bytes x)
    → rest_at (family x) (table_in x) s at ≡ Ok (field x (at + length (rest_bytes x)))
unfolding rest_at
rest_read (Record'.Table t) others held kept s at stands = ap (λ (next : ℕ). Ok (field (Record'.Table t) next)) (omega arith)
rest_read (Record'.Gate t g) others (held, eight) kept s at stands = gate_read_lem t g eight (kept_gate t g others kept) s at stands
rest_read (Record'.Witness t w) others (held, full) kept s at stands = witness_read t w full (kept_witness t w others kept) s at stands
rest_read (Record'.Job j) others held kept s at stands =
    job_read_lem j (kept_inputs j.table kept) (kept_sound j kept) (kept_open j others kept) s at stands

-- a body is read as its record, wherever it stands, by what its kind byte says
pub body_read : (x : Record) (others : List Rule) → Shaped x → NoneBroken (record_rules x others) → (s : List ℕ) (at : ℕ) → at ≤ length s
    → Stands s at (body_bytes x) → body_at (head_in x) s at ≡ Ok (field x (at + length (body_bytes x)))
unfolding body_at
body_read x others shaped kept s at inside stands =
    let table = table_bytes (table_in x) in
    let rest = rest_bytes x in
    let parts : Stands s at (table ++ rest) = subst (Stands s at) (body_parts x) stands in
    let first = table_read_lem (table_in x) s at (kept_table x others kept) (held x shaped) inside (stands_front s at table rest parts) in
    ap (λ (r : Reading Table). onward r (λ t p. rest_at (family x) t s p)) first
    ∙ rest_read x others shaped kept s (at + length table) (stands_back s at table rest parts)
    ∙ ap (λ (next : ℕ). Ok (field x next)) (after_both at table rest ∙ ap (λ (l : List ℕ). at + length l) (sym (body_parts x)))

-- a record's bytes, alone, are read as the record
record_read : (x : Record) (others : List Rule) → Shaped x → NoneBroken (record_rules x others) → read_record (record_bytes x) ≡ Ok x
unfolding record_at single_at
record_read x others shaped kept =
    let s = record_bytes x in
    let h = head_in x in
    let kind = head_kind h ∷ [] in
    let body = body_bytes x in
    let stands : Stands s 0 (kind ++ body) = subst (Stands s 0) (kind_and_body x) (stands_self s) in
    let inside = stands_head s 0 (head_kind h) body stands in
    let plain = kept_plain x others kept in
    let first = kind_read every_kind h s 0 body (every_taken h.family h.cares plain.gate plain.witness) stands in
    let second = body_read x others shaped kept s (0 + 1) (omega (arith, inside.0)) (stands_back s 0 kind body stands) in
    let whole : length s ≡ 1 + length body = omega (arith, ap length (kind_and_body x)) in
    ap (λ (r : Reading Head). onward (onward r (λ g p. body_at g s p)) (ended s)) first
    ∙ ap (λ (r : Reading Record). onward r (ended s)) second
    ∙ ap (λ (b : Bool). checked (rule Refusal'.BytesLeft b ∷ []) (Ok x)) (le-ltb (0 + 1 + length body) (length s) (omega arith))
  where
    ended : List ℕ → Record → ℕ → Answered Record
    ended s y next = checked (bytes_left s next ∷ []) (Ok y)

-- reading what was written gives the same record
pub read_back : (x : Record) → Shaped x → (room : ℕ) (bytes : List ℕ) → write_record x room ≡ Ok bytes → read_record bytes ≡ Ok x
read_back x shaped room bytes e =
    let rules = too_short room (record_bytes x) ∷ [] in
    let kept = answered_none_broken (record_rules x rules) (record_bytes x) bytes e in
    ap read_record (sym kept.1) ∙ record_read x rules shaped kept.0
