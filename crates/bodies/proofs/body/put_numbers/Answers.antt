-- `bodies::body::put_numbers` meets its contract: K, v and s, each behind the one before it. Assumes nothing.
use mathlib.Core.List.{List, ◌++◌}
use Prim.Native.Nat.{ℕ}
use native.Mathlib.Omega.{arith}
use lib.ListN.{length-append}
use Rattle.job.specs.declared.job.Job.{Job}
use Rattle.refusal.proofs.TableChecked.{kept_inputs}
use Rattle.job.proofs.JobChecked.{kept_sound}
use Rattle.job.proofs.SoundLaws.{in_range_search, table_current, table_copied}
use Rattle.codec.specs.Number.{number_bytes}
use Rattle.codec.specs.VectorField.{vector_bytes}
use Rattle.codec.specs.Written.{Room}
use Rattle.codec.proofs.WrittenLaws.{written_room, written_next}
use Rattle.records.specs.Record.{numbers_bytes}
use Rattle.bodies.proofs.body.put_numbers.Goals as goal

abbrev number : Job → List ℕ
number job = number_bytes job.state.k

abbrev current : Job → List ℕ
current job = vector_bytes job.table.n job.state.v

abbrev copied : Job → List ℕ
copied job = vector_bytes job.table.n job.state.s

-- the room for K and v
room_current : (job : Job) (old : List ℕ) (from : ℕ) → Room old from (numbers_bytes job) → Room old from (number job ++ current job)
room_current job old from room = omega (arith, length-append (number job ++ current job) (copied job))

pub put_number-v_at-requires : goal.put_number-v_at-requires
put_number-v_at-requires c =
    let job = c.args.job in
    let old = c.args.out.now in
    let capped = (kept_sound job c.requires.0).capped in
    (omega (arith, capped), omega (arith, room_current job old c.args.at c.requires.1, length-append (number job) (current job)))

pub put_vector-s_at-requires : goal.put_vector-s_at-requires
put_vector-s_at-requires c =
    let job = c.args.job in
    let old = c.args.out.now in
    let v = job.state.v in
    let sound = kept_sound job c.requires.0 in (
      kept_inputs job.table c.requires.0,
      in_range_search job.state.k job.table.n v.a v.b sound.capped (table_current job.table sound),
      written_room old c.args.at (number job) (current job) (room_current job old c.args.at c.requires.1) c.put_number-v_at.ensures,
    )

pub put_vector-requires : goal.put_vector-requires
put_vector-requires c =
    let job = c.args.job in
    let old = c.args.out.now in
    let from = c.args.at in
    let s = job.state.s in
    let sound = kept_sound job c.requires.0 in
    -- after v
    let here = written_next old from (number job) (current job) (room_current job old from c.requires.1) c.put_number-v_at.ensures c.put_vector-s_at.ensures in (
      kept_inputs job.table c.requires.0,
      in_range_search job.state.k job.table.n s.a s.b sound.capped (table_copied job.table sound),
      written_room old from (number job ++ current job) (copied job) c.requires.1 here,
    )

pub returns : goal.returns
returns c =
    let job = c.args.job in
    let old = c.args.out.now in
    let from = c.args.at in
    let here = written_next old from (number job) (current job) (room_current job old from c.requires.1) c.put_number-v_at.ensures c.put_vector-s_at.ensures in
    written_next old from (number job ++ current job) (copied job) c.requires.1 here c.put_vector.ensures
