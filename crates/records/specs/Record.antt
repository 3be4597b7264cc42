-- A record: its bytes, and what bytes mean (document 01, "Records" and "Who causes which number"). Definitions only. Assumes nothing.
use Rattle.records.specs.declared.record.Record.TheVariants as Record'
use Rattle.types.specs.declared.refusal.Refusal.TheVariants as Refusal'
use Rattle.std.specs.Prelude.{ℕ, true, false, not, ◌&&◌, List, [], ◌∷◌, ◌++◌, length, nat_lt, Ok}
use Rattle.records.specs.declared.record.Record.{Record}
use Rattle.types.specs.declared.table.Table.{Table}
use Rattle.types.specs.declared.gate.Gate.{Gate}
use Rattle.table.specs.Table.{rows, is_whole}
use Rattle.refusal.specs.Refusal.{Rule, rule, Answered, checked}
use Rattle.types.specs.declared.vector.Vector.{Vector}
use Rattle.numbers.specs.Power.{highest}
use Rattle.job.specs.declared.job.Job.{Job}
use Rattle.types.specs.declared.stage.Stage.TheVariants.{Open}
pub use Rattle.job.specs.Calls.{vector_gate}
use Rattle.job.specs.Sound.{is_sound}
use Rattle.codec.specs.Field.{Reading, field, onward}
use Rattle.codec.specs.Number.{number_bytes, number_at}
use Rattle.codec.specs.VectorField.{vector_bytes, vector_at}
use Rattle.codec.specs.RowList.{RowList, row_list_bytes, row_list_at}
use Rattle.codec.specs.Kind.{Family, Tables, Gates, Witnesses, Jobs, Head, head, head_kind, every_kind, record_with}
use Rattle.codec.specs.TableField.{table_bytes, table_at}

-- the family of a record
abbrev pub family : Record → Family
family (Record'.Table t) = Tables
family (Record'.Gate t g) = Gates
family (Record'.Witness t w) = Witnesses
family (Record'.Job j) = Jobs

-- the table of a record
abbrev pub table_in : Record → Table
table_in (Record'.Table t) = t
table_in (Record'.Gate t g) = t
table_in (Record'.Witness t w) = t
table_in (Record'.Job j) = j.table

-- what the kind byte of a record says: care bytes follow where a row of its table is not cared for
abbrev pub head_in : Record → Head
head_in x = head (family x) (not (is_whole (table_in x)))

-- the weights and T of a gate as a vector; back it is `vector_gate`
abbrev pub gate_vector : Gate → Vector
gate_vector g = record { a = g.weights; b = g.threshold }

-- ---- written

-- after the table, kinds 4 and 6 have K, v, s, and a row list
abbrev pub numbers_bytes : Job → List ℕ
numbers_bytes j = (number_bytes j.state.k ++ vector_bytes j.table.n j.state.v) ++ vector_bytes j.table.n j.state.s

abbrev pub job_bytes : Job → List ℕ
job_bytes j = numbers_bytes j ++ row_list_bytes j.state.counts

-- what follows the kind byte
unfoldable pub body_bytes : Record → List ℕ
body_bytes (Record'.Table t) = table_bytes t
body_bytes (Record'.Gate t g) = table_bytes t ++ vector_bytes t.n (gate_vector g)
body_bytes (Record'.Witness t w) = table_bytes t ++ row_list_bytes w.counts
body_bytes (Record'.Job j) = table_bytes j.table ++ job_bytes j

unfoldable pub record_bytes : Record → List ℕ
unfolding body_bytes
record_bytes x = head_kind (head_in x) ∷ body_bytes x

-- ---- read

-- after the table of kind 2, each weight, then T: 1, 4, 7
abbrev pub gate_at : Table → List ℕ → ℕ → Reading Record
gate_at t s at = onward (vector_at true t.n s at) (λ v next. Ok (field (Record'.Gate t (vector_gate t.n v)) next))

-- after that of kind 3, a row list: each number 1, 4, 8
abbrev pub witness_at : Table → List ℕ → ℕ → Reading Record
witness_at t s at = onward (row_list_at true (rows t) s at) (λ list next. Ok (field (Record'.Witness t (record { counts = list.counts })) next))

-- the open job of the numbers of a kind 4 or 6 record. M is not stored: it is the highest power of two not above K
abbrev pub open_job : Table → ℕ → Vector → Vector → List ℕ → Job
open_job t k v s counts = record { table = t; state = record { k = k; v = v; mark = highest k; s = s; counts = counts; stage = Open } }

-- 9: the list broke a range, or the job is not sound
abbrev pub unsound_job : RowList → Job → Rule
unsound_job list j = rule Refusal'.Unsound (not (list.kept && is_sound j))

-- of kinds 4 and 6, after K, v and s: each number 1, 4; after the last 9
abbrev pub counts_at : Table → ℕ → Vector → Vector → List ℕ → ℕ → Reading Record
counts_at t k v w s at =
    onward (row_list_at false (rows t) s at) (λ list next.
    let j = open_job t k v w list.counts in
    checked (unsound_job list j ∷ []) (Ok (field (Record'.Job j) next)))

abbrev pub job_at : Table → List ℕ → ℕ → Reading Record
job_at t s at =
    onward (number_at s at) (λ k p. onward (vector_at false t.n s p) (λ v q. onward (vector_at false t.n s q) (λ w r. counts_at t k v w s r)))

-- what follows the table, by the family
unfoldable pub rest_at : Family → Table → List ℕ → ℕ → Reading Record
rest_at Tables t s at = Ok (field (Record'.Table t) at)
rest_at Gates t s at = gate_at t s at
rest_at Witnesses t s at = witness_at t s at
rest_at Jobs t s at = job_at t s at

-- what follows the kind byte, by what it says: a table, and what follows it
unfoldable pub body_at : Head → List ℕ → ℕ → Reading Record
body_at h s at = onward (table_at h.cares s at) (λ t p. rest_at h.family t s p)

-- a record from a position on, of the kinds that a caller takes
unfoldable pub record_at : List Head → List ℕ → ℕ → Reading Record
record_at takes s at = record_with takes body_at s at

-- 6: bytes left after a single record
abbrev pub bytes_left : List ℕ → ℕ → Rule
bytes_left s at = rule Refusal'.BytesLeft (nat_lt at (length s))

-- the single record, of every kind, from a position to the end
unfoldable pub single_at : List ℕ → ℕ → Answered Record
unfolding record_at
single_at s at = onward (record_at every_kind s at) (λ x next. checked (bytes_left s next ∷ []) (Ok x))

-- what bytes mean: one record, or one refusal
abbrev pub read_record : List ℕ → Answered Record
read_record s = single_at s 0
