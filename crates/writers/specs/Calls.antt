-- The calls that write records: for each its rules in their order, and its answer (document 01, "Records" and "Who causes which number").
-- Definitions only. Assumes nothing.
use Rattle.records.specs.declared.record.Record.TheVariants as Record'
use Rattle.types.specs.declared.refusal.Refusal.TheVariants as Refusal'
use Rattle.std.specs.Prelude.{◌≡◌, not, List, [], ◌∷◌, ℕ, ltb, length, Ok, Err}
use Rattle.refusal.specs.Refusal.{Rule, rule, Answered, and_then, checked}
use Rattle.types.specs.declared.table.Table.{Table}
use Rattle.table.specs.Table.{is_whole}
use Rattle.cell.specs.Calls.{other_inputs, gate_range, witness_range}
use Rattle.refusal.specs.TableRules.{table_rules}
use Rattle.job.specs.declared.job.Job.{Job}
use Rattle.job.specs.Calls.{job_rules, is_ended}
use Rattle.codec.specs.Written.{written_at}
use Rattle.records.specs.declared.record.Record.{Record}
use Rattle.records.specs.Record.{record_bytes}

-- ---- write a table (2, 3, 16, 12), a gate (2, 3, 16, 7, 12) or a witness (2, 3, 16, 8, 12), and save a job (2, 3, 16, 9, 13, 12)

-- 12: output buffer too short
abbrev pub too_short : {A : Type 0} → ℕ → List A → Rule
too_short room bytes = rule Refusal'.Room (ltb room (length bytes))

-- bytes to write, or other numbers, in a buffer of so many: 12
abbrev pub fitted : {A : Type 0} → ℕ → List A → Answered (List A)
fitted room bytes = checked (too_short room bytes ∷ []) (Ok bytes)

-- 13: saving an ended job
abbrev pub has_ended : Job → Rule
has_ended j = rule Refusal'.Ended (is_ended j.state.stage)

-- 16 (document 02, §3): kind 2 or 3 asked for with a row that is not cared for
abbrev pub uncared_row : Table → Rule
uncared_row t = rule Refusal'.Care (not (is_whole t))

-- the test of a table that is to stand in a record of kind 2 or 3: 2, 3, 16
abbrev pub whole_checked : Table → Answered (Unit {0})
whole_checked t = checked (table_rules t (uncared_row t ∷ [])) (Ok tt)

-- the rules of a record, before the others of the call that writes it
abbrev pub record_rules : Record → List Rule → List Rule
record_rules (Record'.Table t) others = table_rules t others
record_rules (Record'.Gate t g) others = other_inputs t g ∷ table_rules t (uncared_row t ∷ gate_range g ∷ others)
record_rules (Record'.Witness t w) others = table_rules t (uncared_row t ∷ witness_range t w ∷ others)
record_rules (Record'.Job j) others = job_rules j (has_ended j ∷ others)

-- the test of a record
abbrev pub record_checked : Record → Answered (Unit {0})
record_checked x = checked (record_rules x []) (Ok tt)

-- the bytes to write, in a buffer of so many bytes
abbrev pub write_record : Record → ℕ → Answered (List ℕ)
write_record x room = checked (record_rules x (too_short room (record_bytes x) ∷ [])) (Ok (record_bytes x))

-- the length written, or a refusal
abbrev pub written : {A : Type 0} → Answered (List A) → Answered ℕ
written a = and_then a (λ bytes. Ok (length bytes))

-- the lent buffer after the call: the record, and the bytes past it as they were; unchanged by a refusal
abbrev pub lent : {A : Type 0} → List A → Answered (List A) → List A
lent out (Ok bytes) = written_at out 0 bytes
lent out (Err n) = out

-- a call that writes bytes, or other numbers, has come to this: what it returns, and the lent buffer before and after it
abbrev pub WroteBytes : {A : Type 0} → Answered (List A) → (old : List A) → Answered ℕ → (new : List A) → Type 0
WroteBytes a old r new = (r ≡ written a) × (new ≡ lent old a)

-- of a record
abbrev pub Wrote : Record → (old : List ℕ) → Answered ℕ → (new : List ℕ) → Type 0
Wrote x old r new = WroteBytes (write_record x (length old)) old r new
