-- The bodies of records: a table's, a job's field after field, and how many bytes a body takes at most, so that sums of lengths do not wrap.
-- Assumes nothing.
use Rattle.records.specs.declared.record.Record.TheVariants as Record'
use mathlib.Core.Path.{◌≡◌, refl, ◌∙◌, ap}
use mathlib.Core.List.{List, ◌++◌, append_assoc}
use Prim.Native.Nat.{ℕ, ◌+◌, ◌-◌, ◌≤◌}
use native.Mathlib.Omega.{arith}
use lib.ListN.{length, take, drop, length-append}
use Rattle.types.specs.declared.table.Table.{Table}
use Rattle.types.specs.declared.vector.Vector.{Vector}
use Rattle.job.specs.declared.job.Job.{Job}
use Rattle.codec.specs.Number.{number_bytes, signed_code}
use Rattle.codec.specs.VectorField.{vector_bytes}
use Rattle.codec.specs.RowList.{row_list_bytes, filled_from}
use Rattle.codec.specs.TableField.{table_bytes}
use Rattle.codec.specs.Written.{Room, Put}
use Rattle.codec.proofs.WrittenLaws.{written_room, written_next, written_rest, written_part}
use Rattle.codec.proofs.NumberLaws.{number_length}
use Rattle.codec.proofs.WeightLaws.{weights_most, vector_parts}
use Rattle.codec.proofs.PairLaws.{row_list_bytes_lem}
use Rattle.writing.proofs.TableParts.{table_most}
use Rattle.rowlists.proofs.RowParts.{pairs_most}
use Rattle.records.specs.declared.record.Record.{Record}
use Rattle.records.specs.Record.{table_in, gate_vector, numbers_bytes, job_bytes, body_bytes, record_bytes}
use Rattle.bodies.proofs.RecordParts.{rest_bytes, kind_and_body, body_parts}

-- ---- a table's body, and a job's

-- of a table alone it is the table
pub table_body : (t : Table) → body_bytes (Record'.Table t) ≡ table_bytes t
unfolding body_bytes
table_body t = refl

-- of a job the table, then K, v and s, then the row list
abbrev pub fields : Job → List ℕ
fields j = (table_bytes j.table ++ numbers_bytes j) ++ row_list_bytes j.state.counts

pub job_parts : (j : Job) → body_bytes (Record'.Job j) ≡ fields j
job_parts j = body_parts (Record'.Job j) ∙ simp append_assoc

-- what follows the table, as it is read: K, then v, then s, then the row list
pub job_bytes_lem : (j : Job)
    → job_bytes j
    ≡ number_bytes j.state.k ++ (vector_bytes j.table.n j.state.v ++ (vector_bytes j.table.n j.state.s ++ row_list_bytes j.state.counts))
job_bytes_lem j = simp append_assoc

-- the lengths of those added up
pub job_count : (j : Job)
    → length (job_bytes j)
    ≡ length (number_bytes j.state.k) + (length (vector_bytes j.table.n j.state.v) + length (vector_bytes j.table.n j.state.s)) + length (row_list_bytes j.state.counts)
job_count j =
    let current = vector_bytes j.table.n j.state.v in
    let copied = vector_bytes j.table.n j.state.s in
    let number = number_bytes j.state.k in
    omega (arith, length-append (numbers_bytes j) (row_list_bytes j.state.counts), length-append (number ++ current) copied, length-append number current)

-- ---- lengths

-- n weights and b take at most 27
vector_most : (n : ℕ) (v : Vector) → n ≤ 8 → length (vector_bytes n v) ≤ 27
vector_most n v h = rw (vector_parts n v, length-append) (omega (arith, weights_most v.a n, number_length (signed_code v.b)))

-- a row list takes at most 1539
rows_most : (counts : List ℕ) → length (row_list_bytes counts) ≤ 1539
rows_most counts = rw (row_list_bytes_lem counts, length-append) (omega (arith, number_length (filled_from counts 256 0), pairs_most counts 256))

-- what follows the table takes at most 1596
rest_most : (x : Record) → (table_in x).n ≤ 8 → length (rest_bytes x) ≤ 1596
rest_most (Record'.Table t) h = omega arith
rest_most (Record'.Gate t g) h = omega (arith, vector_most t.n (gate_vector g) h)
rest_most (Record'.Witness t w) h = omega (arith, rows_most w.counts)
rest_most (Record'.Job j) h =
    omega (
      arith,
      job_count j,
      number_length j.state.k,
      vector_most j.table.n j.state.v h,
      vector_most j.table.n j.state.s h,
      rows_most j.state.counts,
    )

-- the length of a body is those of the table and of the rest, and at most 2047
pub body_count : (x : Record) → length (body_bytes x) ≡ length (table_bytes (table_in x)) + length (rest_bytes x)
body_count x = rw (body_parts x) (length-append (table_bytes (table_in x)) (rest_bytes x))

pub body_most : (x : Record) → (table_in x).n ≤ 8 → length (body_bytes x) ≤ 2047
body_most x h = omega (arith, body_count x, table_most (table_in x) h, rest_most x h)

-- and so do the lengths of a job's fields together
pub job_most : (j : Job) → j.table.n ≤ 8
    → length (table_bytes j.table) + length (number_bytes j.state.k) + (length (vector_bytes j.table.n j.state.v) + length (vector_bytes j.table.n j.state.s)) + length (row_list_bytes j.state.counts) ≤ 2047
job_most j h = omega (arith, body_count (Record'.Job j), job_count j, body_most (Record'.Job j) h)

-- and of a record at most 2048
pub record_most : (x : Record) → (table_in x).n ≤ 8 → length (record_bytes x) ≤ 2048
record_most x h = rw (kind_and_body x) (omega (arith, body_most x h))

-- ---- written

-- a body in a buffer with room for it: its table, and the rest behind it, which goes into the buffer or into the rest of the buffer
module _ (x : Record) (old : List ℕ) (at : ℕ) (room : Room old at (body_bytes x)) where
  abbrev table : List ℕ
  table = table_bytes (table_in x)

  both : Room old at (table ++ rest_bytes x)
  both = omega (arith, room, ap length (body_parts x))

  pub table_room : Room old at table
  table_room = omega (arith, room, body_count x)

  module _ {out : List ℕ} {here : ℕ} (first : Put old at table out here) where
    pub rest_room : Room out here (rest_bytes x)
    rest_room = written_room old at table (rest_bytes x) both first

    pub rest_put : {new : List ℕ} {end : ℕ} → Put out here (rest_bytes x) new end → Put old at (body_bytes x) new end
    rest_put second = rw (body_parts x) (written_next old at table (rest_bytes x) both first second)

    pub rest_lent : length (rest_bytes x) ≤ length (take (length out - here) (drop here out))
    rest_lent = written_rest old at table (rest_bytes x) both first

    pub rest_part : {size : ℕ} {part : List ℕ} → Put (take (length out - here) (drop here out)) 0 (rest_bytes x) part size
        → Put old at (body_bytes x) (take here out ++ (part ++ drop (length out - here) (drop here out))) (here + size)
    rest_part second = rw (body_parts x) (written_part old at table (rest_bytes x) both first second)
