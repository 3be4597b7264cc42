-- Writing what was read gives the same bytes: each body, wherever it stands, and the whole. Assumes nothing.
use Rattle.records.specs.declared.record.Record.TheVariants as Record'
use Rattle.types.specs.declared.refusal.Refusal.TheVariants as Refusal'
use Rattle.std.specs.Prelude.{Ok}
use mathlib.Core.Path.{◌≡◌, refl, sym, ◌∙◌, ap, ap₂, subst}
use mathlib.Core.Bool.{Bool, true, false, not, cond, ◌&&◌, not-not}
use mathlib.Core.List.{List, [], ◌∷◌, ◌++◌}
use Prim.Native.Nat.{ℕ, ◌+◌, ◌≤◌}
use native.Mathlib.Omega.{arith}
use lib.Dec.{eqb, ltb}
use lib.ListN.{length, get_or, drop}
use borrow.Author.Tests.{le-ltb, ltb-false, not-false, eq-eqb}
use Rattle.numbers.specs.Tests.{all_at_most}
use Rattle.numbers.proofs.TestLaws.{and_left, and_right}
use Rattle.types.specs.declared.table.Table.{Table}
use Rattle.table.specs.Table.{rows, is_whole}
use Rattle.table.specs.Witness.{unfit, count_limit}
use Rattle.table.proofs.TableLaws.{rows_le}
use Rattle.refusal.specs.Refusal.{Rule, and_then, checked, NoneBroken, none, also}
use Rattle.refusal.specs.TableRules.{table_rules}
use Rattle.refusal.proofs.RefusalLaws.{none_broken_answered}
use Rattle.refusal.proofs.TableChecked.{kept_inputs, all_kept}
use Rattle.types.specs.declared.vector.Vector.{Vector}
use Rattle.job.specs.Sound.{is_sound}
use Rattle.job.proofs.JobChecked.{job_all_kept}
use Rattle.codec.specs.Field.{Field, field, Reading}
use Rattle.codec.specs.Number.{number_bytes, number_at}
use Rattle.codec.specs.VectorField.{vector_bytes, vector_at}
use Rattle.codec.specs.RowList.{RowList, row_list_bytes, row_list_at}
use Rattle.codec.specs.Kind.{Family, Tables, Gates, Witnesses, Jobs, Head, head, head_kind, every_kind, head_among, kind_at}
use Rattle.codec.specs.TableField.{table_bytes, table_at}
use Rattle.codec.proofs.FieldLaws.{onward_answered, and_then_answered, checked_onward, checked_answered}
use Rattle.codec.proofs.StandsLaws.{Stands, stands_nil, both_stand, stands_whole, AllBytes}
use Rattle.codec.proofs.NumberLaws.{number_written}
use Rattle.codec.proofs.VectorFieldLaws.{vector_written}
use Rattle.codec.proofs.RowListWritten.{rows_written, strict_kept}
use Rattle.codec.proofs.KindLaws.{KindRead, kind_written}
use Rattle.codec.proofs.TableFieldLaws.{table_written}
use Rattle.records.specs.declared.record.Record.{Record}
use Rattle.records.specs.Record.{family, table_in, head_in, vector_gate, body_bytes, record_bytes, gate_at, witness_at, open_job, unsound_job, job_at, rest_at, body_at, record_at, single_at, read_record}
use Rattle.writers.specs.Calls.{uncared_row, too_short, record_rules, write_record}
use Rattle.bodies.proofs.RecordParts.{rest_bytes, kind_and_body, body_parts, fit_from}
use Rattle.writers.proofs.KeptLaws.{Plain}

-- ---- write after read

-- what reading what follows a table says: the record's family and table are those read before it, its bytes stand there, and it keeps a
-- writer's rules
record RestRead (f : Family) (t : Table) (s : List ℕ) (at : ℕ) (b : Field Record) : Type 0 where
  same_family : family b.value ≡ f
  same_table : table_in b.value ≡ t
  stands : Stands s at (rest_bytes b.value)
  next : b.next ≡ at + length (rest_bytes b.value)
  rules : (others : List Rule) → NoneBroken others → NoneBroken (record_rules b.value others)

module _ (t : Table) (s : List ℕ) (bytes : AllBytes s) (taken : NoneBroken (table_rules t [])) where
  -- the rules of a table with every row cared for, before others
  whole_kept : is_whole t ≡ true → {others : List Rule} → NoneBroken others → NoneBroken (table_rules t (uncared_row t ∷ others))
  whole_kept whole kept = all_kept t taken (also (ap not whole) kept)

  table_rest : (at : ℕ) (b : Field Record) → ◌≡◌ {A = Reading Record} (Ok (field (Record'.Table t) at)) (Ok b) → RestRead Tables t s at b
  table_rest at b e =
      let same : field (Record'.Table t) at ≡ b = cc in
      subst (RestRead Tables t s at) same (record { same_family = refl; same_table = refl; stands = stands_nil s at; next = omega arith; rules = λ others kept. all_kept t taken kept })

  gate_rest : is_whole t ≡ true → (at : ℕ) (b : Field Record) → gate_at t s at ≡ Ok b → RestRead Gates t s at b
  gate_rest whole at b e =
      let parts = onward_answered (vector_at true t.n s at) _ b e in
      let f = parts.0 in
      let read = vector_written true t.n s at f (kept_inputs t taken) bytes parts.1 in
      let same : field (Record'.Gate t (vector_gate t.n f.value)) f.next ≡ b = cc in
      subst (RestRead Gates t s at) same (record {
        same_family = refl;
        same_table = refl;
        stands = read.stands;
        next = read.next;
        rules = λ others kept. also (ap not (eq-eqb t.n t.n refl)) (whole_kept whole (also (ap not (read.ranged refl)) kept));
      })

  witness_rest : is_whole t ≡ true → (at : ℕ) (b : Field Record) → witness_at t s at ≡ Ok b → RestRead Witnesses t s at b
  unfolding unfit
  witness_rest whole at b e =
      let parts = onward_answered (row_list_at true (rows t) s at) _ b e in
      let f = parts.0 in
      let read = rows_written true (rows t) s at f (rows_le (kept_inputs t taken)) bytes parts.1 (strict_kept (rows t) s at f parts.1) in
      let same : field (Record'.Witness t (record { counts = f.value.counts })) f.next ≡ b = cc in
      subst (RestRead Witnesses t s at) same (record {
        same_family = refl;
        same_table = refl;
        stands = read.stands;
        next = read.next;
        rules = λ others kept. whole_kept whole (also (fit_from (all_at_most 0 f.value.counts) (all_at_most count_limit f.value.counts) (all_at_most 0 (drop (rows t) f.value.counts)) (read.some refl) read.limit read.past) kept);
      })

  -- the fields of a job's record
  job_fields : (at : ℕ) (k : Field ℕ) (v w : Field Vector) (list : Field RowList) → number_at s at ≡ Ok k → vector_at false t.n s k.next ≡ Ok v
      → vector_at false t.n s v.next ≡ Ok w → row_list_at false (rows t) s w.next ≡ Ok list → list.value.kept ≡ true
      → is_sound (open_job t k.value v.value w.value list.value.counts) ≡ true
      → RestRead Jobs t s at (field (Record'.Job (open_job t k.value v.value w.value list.value.counts)) list.next)
  job_fields at k v w list ek ev ew el kept sound =
      let few = kept_inputs t taken in
      let number = number_written s at k bytes ek in
      let current = vector_written false t.n s k.next v few bytes ev in
      let copied = vector_written false t.n s v.next w few bytes ew in
      let counts = rows_written false (rows t) s w.next list (rows_le few) bytes el kept in
      let two = both_stand s at (number_bytes k.value) (vector_bytes t.n v.value) number.stands number.next current.stands current.next in
      let three = both_stand s at (number_bytes k.value ++ vector_bytes t.n v.value) (vector_bytes t.n w.value) two.0 two.1 copied.stands copied.next in
      let whole = both_stand s at ((number_bytes k.value ++ vector_bytes t.n v.value) ++ vector_bytes t.n w.value) (row_list_bytes list.value.counts) three.0 three.1 counts.stands counts.next in
      record {
        same_family = refl;
        same_table = refl;
        stands = whole.0;
        next = whole.1;
        rules = λ others rest. job_all_kept (open_job t k.value v.value w.value list.value.counts) taken sound (also refl rest);
      }

  job_tested : (at : ℕ) (b : Field Record) (k : Field ℕ) (v w : Field Vector) (list : Field RowList) → number_at s at ≡ Ok k → vector_at false t.n s k.next ≡ Ok v
      → vector_at false t.n s v.next ≡ Ok w → row_list_at false (rows t) s w.next ≡ Ok list
      → checked (unsound_job list.value (open_job t k.value v.value w.value list.value.counts) ∷ []) (Ok (field (Record'.Job (open_job t k.value v.value w.value list.value.counts)) list.next)) ≡ Ok b
      → RestRead Jobs t s at b
  job_tested at b k v w list ek ev ew el e =
      let j = open_job t k.value v.value w.value list.value.counts in
      let passed = checked_answered Refusal'.Unsound (not (list.value.kept && is_sound j)) (field (Record'.Job j) list.next) b e in
      let fine = not-false (list.value.kept && is_sound j) passed.0 in
      subst (RestRead Jobs t s at) passed.1 (job_fields at k v w list ek ev ew el (and_left list.value.kept (is_sound j) fine) (and_right list.value.kept (is_sound j) fine))

  job_rest : (at : ℕ) (b : Field Record) → job_at t s at ≡ Ok b → RestRead Jobs t s at b
  job_rest at b e =
      let (k, ek, e₁) = onward_answered (number_at s at) _ b e in
      let (v, ev, e₂) = onward_answered (vector_at false t.n s k.next) _ b e₁ in
      let (w, ew, e₃) = onward_answered (vector_at false t.n s v.next) _ b e₂ in
      let (list, el, e₄) = onward_answered (row_list_at false (rows t) s w.next) _ b e₃ in
      job_tested at b k v w list ek ev ew el e₄

  -- by the family: beside a gate and a witness every row is cared for
  rest_written : (f : Family) → (f ≡ Gates → is_whole t ≡ true) → (f ≡ Witnesses → is_whole t ≡ true) → (at : ℕ) (b : Field Record) → rest_at f t s at ≡ Ok b
      → RestRead f t s at b
  unfolding rest_at
  rest_written Tables g w = table_rest
  rest_written Gates g w = gate_rest (g refl)
  rest_written Witnesses g w = witness_rest (w refl)
  rest_written Jobs g w = job_rest

-- what reading a body says: the record's kind byte says the same, its body stands there, and it keeps a writer's rules
pub record BodyRead (h : Head) (s : List ℕ) (at : ℕ) (b : Field Record) : Type 0 where
  pub same_head : head_in b.value ≡ h
  pub stands : Stands s at (body_bytes b.value)
  pub next : b.next ≡ at + length (body_bytes b.value)
  pub rules : (others : List Rule) → NoneBroken others → NoneBroken (record_rules b.value others)

-- bytes that are read as a body, by what a kind byte says, are the record's own
pub body_written : (s : List ℕ) → AllBytes s → (at : ℕ) (b : Field Record) (h : Head) → Plain h → body_at h s at ≡ Ok b → BodyRead h s at b
unfolding body_at
body_written s bytes at b h plain e =
    let (t, et, er) = onward_answered (table_at h.cares s at) (λ u p. rest_at h.family u s p) b e in
    let table = table_written h.cares s at t bytes et in
    let whole : h.cares ≡ false → is_whole t.value ≡ true = λ none. table.whole ∙ ap not none in
    let read = rest_written t.value s bytes table.taken h.family (λ g. whole (plain.gate g)) (λ w. whole (plain.witness w)) t.next b er in
    let own = table_bytes t.value in
    let last = rest_bytes b.value in
    let both = both_stand s at own last table.stands table.next read.stands read.next in
    let same : own ++ last ≡ body_bytes b.value = ap (λ (u : Table). table_bytes u ++ last) (sym read.same_table) ∙ sym (body_parts b.value) in
    let cares : not (is_whole (table_in b.value)) ≡ h.cares =
    ap (λ (u : Table). not (is_whole u)) read.same_table ∙ ap not table.whole ∙ not-not h.cares in
    record {
      same_head = ap₂ head read.same_family cares;
      stands = subst (Stands s at) same both.0;
      next = both.1 ∙ ap (λ (l : List ℕ). at + length l) same;
      rules = read.rules;
    }

-- ---- the kind byte

-- each of the heads that a caller takes passes
Each : (Head → Type 0) → List Head → Type 0
Each P [] = Unit {0}
Each P (h ∷ hs) = P h × Each P hs

-- so one that a byte is read as does
each_read : (P : Head → Type 0) (takes : List Head) (kind : ℕ) (h : Head) → Each P takes → head_among takes kind ≡ Ok h → P h
unfolding head_among Each
each_read P [] kind h all e = let z : ◌≡◌ {A = ℕ} 0 1 = cc in absurd (omega arith)
each_read P (g ∷ gs) kind h (first, all) e = by (eqb kind (head_kind g)) e (each_read P gs kind h all)
  where
    by : (b : Bool) → cond b (Ok g) (head_among gs kind) ≡ Ok h → (head_among gs kind ≡ Ok h → P h) → P h
    by true q later = let same : g ≡ h = cc in subst P same first
    by false q later = later q

-- no kind byte says that care bytes stand before a gate or a witness
without : (f : Family) → Plain (head f false)
without f = record { gate = λ e. refl; witness = λ e. refl }

with_tables : Plain (head Tables true)
with_tables = record { gate = λ e. cc; witness = λ e. cc }

with_jobs : Plain (head Jobs true)
with_jobs = record { gate = λ e. cc; witness = λ e. cc }

every_plain : Each Plain every_kind
unfolding Each
every_plain = (without Tables, (without Gates, (without Witnesses, (without Jobs, (with_tables, (with_jobs, tt))))))

kind_plain : (s : List ℕ) (at : ℕ) (f : Field Head) → kind_at every_kind s at ≡ Ok f → Plain f.value
kind_plain s at f e =
    let said = head_among every_kind (get_or s at 0) in
    let (inside, after) = checked_onward Refusal'.EndsEarly (ltb (length s) (at + 1)) (and_then said (λ g. Ok (field g (at + 1)))) f e in
    let (h, is, same) = and_then_answered said (λ g. Ok (field g (at + 1))) f after in
    let read : field h (at + 1) ≡ f = cc in
    rw (← read) (each_read Plain every_kind (get_or s at 0) h every_plain is)

-- ---- a whole record

-- a record that was read from bytes is written as they stand
record_written : (s : List ℕ) (x : Record) (k : Field Head) (b : Field Record) → KindRead s 0 k → BodyRead k.value s k.next b
    → ltb b.next (length s) ≡ false → b.value ≡ x → s ≡ record_bytes x
record_written s x k b kind body ends e =
    let first = head_kind k.value ∷ [] in
    let last = body_bytes b.value in
    let same : first ++ last ≡ record_bytes b.value = ap (λ (h : Head). (head_kind h ∷ []) ++ last) (sym body.same_head) ∙ sym (kind_and_body b.value) in
    let both = both_stand s 0 first last kind.stands kind.next body.stands body.next in
    stands_whole s (first ++ last) both.0 (omega (arith, both.1, ltb-false b.next (length s) ends)) ∙ same ∙ ap record_bytes e

-- writing what was read gives the same bytes
pub write_back : (s : List ℕ) → AllBytes s → (x : Record) → read_record s ≡ Ok x → (room : ℕ) → length s ≤ room → write_record x room ≡ Ok s
unfolding record_at single_at
write_back s bytes x e room h =
    let (b, eb, e₁) = onward_answered (record_at every_kind s 0) _ x e in
    let (k, ek, e₂) = onward_answered (kind_at every_kind s 0) (λ h p. body_at h s p) b eb in
    let ended = checked_answered Refusal'.BytesLeft (ltb b.next (length s)) b.value x e₁ in
    let kind = kind_written every_kind s 0 k ek in
    let body = body_written s bytes k.next b k.value (kind_plain s 0 k ek) e₂ in
    let same = record_written s x k b kind body ended.0 ended.1 in
    let room-left : ltb room (length (record_bytes x)) ≡ false = le-ltb room (length (record_bytes x)) (omega (arith, ap length same)) in
    let kept : NoneBroken (record_rules x (too_short room (record_bytes x) ∷ [])) =
    subst (λ (y : Record). NoneBroken (record_rules y (too_short room (record_bytes x) ∷ []))) ended.1 (body.rules (too_short room (record_bytes x) ∷ []) (also room-left none)) in
    none_broken_answered (record_rules x (too_short room (record_bytes x) ∷ [])) (Ok (record_bytes x)) kept ∙ ap Ok (sym same)
