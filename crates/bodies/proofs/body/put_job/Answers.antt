-- `bodies::body::put_job` meets its contract: the table, K, v and s, and the row list in the rest of the buffer. Assumes nothing.
use Rattle.records.specs.declared.record.Record.TheVariants as Record'
use mathlib.Core.Path.{ap}
use mathlib.Core.List.{List, ◌++◌}
use Prim.Native.Nat.{ℕ}
use native.Mathlib.Omega.{arith}
use lib.ListN.{length, length-append}
use Rattle.job.specs.declared.job.Job.{Job}
use Rattle.job.proofs.JobChecked.{kept_sound}
use Rattle.table.proofs.TableLaws.{rows_le}
use Rattle.codec.specs.RowList.{row_list_bytes}
use Rattle.codec.specs.TableField.{table_bytes}
use Rattle.codec.specs.Written.{Room, Put}
use Rattle.codec.proofs.WrittenLaws.{written_room, written_rest, written_next, written_part}
use Rattle.refusal.proofs.TableChecked.{kept_inputs, kept_cares}
use Rattle.records.specs.Record.{numbers_bytes, body_bytes}
use Rattle.bodies.proofs.RecordParts.{savable}
use Rattle.bodies.proofs.BodyLaws.{fields, job_parts}
use Rattle.bodies.proofs.body.put_job.Goals as goal

module _ (job : Job) (old : List ℕ) (from : ℕ) (given : Room old from (body_bytes (Record'.Job job))) where
  abbrev table : List ℕ
  table = table_bytes job.table

  abbrev counts : List ℕ
  counts = row_list_bytes job.state.counts

  -- the room for all fields, for those before the row list, and for the table
  room : Room old from (fields job)
  room = omega (arith, given, ap length (job_parts job))

  room_numbers : Room old from (table ++ numbers_bytes job)
  room_numbers = omega (arith, room, length-append (table ++ numbers_bytes job) counts)

  room_table : Room old from table
  room_table = omega (arith, room_numbers, length-append table (numbers_bytes job))

  -- behind the table
  module _ {out : List ℕ} {here : ℕ} (first : Put old from table out here) where
    numbers_room : Room out here (numbers_bytes job)
    numbers_room = written_room old from table (numbers_bytes job) room_numbers first

    numbers_put : {new : List ℕ} {end : ℕ} → Put out here (numbers_bytes job) new end → Put old from (table ++ numbers_bytes job) new end
    numbers_put second = written_next old from table (numbers_bytes job) room_numbers first second

  -- behind K, v and s
  module _ {out : List ℕ} {here : ℕ} (before : Put old from (table ++ numbers_bytes job) out here) where
    room_rows : Room out here counts
    room_rows = written_room old from (table ++ numbers_bytes job) counts room before

pub put_table-numbers_at-requires : goal.put_table-numbers_at-requires
put_table-numbers_at-requires c =
    let job = c.args.job in
    (kept_inputs job.table c.requires.0, kept_cares job.table c.requires.0, room_table job c.args.out.now c.args.at c.requires.2)

pub put_numbers-counts_at-requires : goal.put_numbers-counts_at-requires
put_numbers-counts_at-requires c =
    (c.requires.0, numbers_room c.args.job c.args.out.now c.args.at c.requires.2 c.put_table-numbers_at.ensures)

pub put_rows-length-requires : goal.put_rows-length-requires
put_rows-length-requires c =
    let job = c.args.job in
    let old = c.args.out.now in
    let from = c.args.at in
    let sound = kept_sound job c.requires.0 in
    let here = numbers_put job old from c.requires.2 c.put_table-numbers_at.ensures c.put_numbers-counts_at.ensures in
    rw c.row_count.ensures (
      rows_le (kept_inputs job.table c.requires.0),
      sound.past,
      (savable job sound c.requires.1).limit,
      omega (
        arith,
        written_rest old from (table_bytes job.table ++ numbers_bytes job) (row_list_bytes job.state.counts) (room job old from c.requires.2) here,
      ),
    )

pub returns : goal.returns
returns c =
    let job = c.args.job in
    let old = c.args.out.now in
    let from = c.args.at in
    let here = numbers_put job old from c.requires.2 c.put_table-numbers_at.ensures c.put_numbers-counts_at.ensures in
    rw (job_parts job)
    (written_part old from (table_bytes job.table ++ numbers_bytes job) (row_list_bytes job.state.counts) (room job old from c.requires.2) here c.put_rows-length.ensures)
