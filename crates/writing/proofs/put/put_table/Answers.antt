-- `put::put_table` meets its contract: n, the bytes of its values behind it, and those of its care bits behind these. Assumes nothing.
use mathlib.Core.Path.{◌≡◌}
use mathlib.Core.List.{List, ◌++◌}
use Prim.Native.Nat.{ℕ}
use native.Mathlib.Omega.{arith}
use lib.ListN.{length, take, length-append}
use borrow.Author.Rules.{rules}
use Rattle.types.specs.declared.table.Table.{Table}
use Rattle.table.specs.Table.{byte_count}
use Rattle.table.proofs.TableLaws.{bytes_le}
use Rattle.codec.specs.Number.{number_bytes}
use Rattle.codec.specs.TableField.{care_bytes, table_bytes}
use Rattle.codec.specs.Written.{Room, Put}
use Rattle.codec.proofs.WrittenLaws.{written_room, written_next}
use Rattle.writing.proofs.TableParts.{table_bytes_lem}
use Rattle.writing.proofs.put.put_table.Goals as goal
use Rattle.writing.proofs.put.put_table.Goals.{After-put_bits-cares_at}

-- n, the bytes of its values, and those of its care bits
abbrev number : Table → List ℕ
number t = number_bytes t.n

abbrev bits : Table → List ℕ
bits t = take (byte_count t.n) t.bytes

-- the room for all of them, and for n and the values
module _ (t : Table) (old : List ℕ) (from : ℕ) (fits : Room old from (table_bytes t)) where
  room : Room old from ((number t ++ bits t) ++ care_bytes t)
  room = rw (table_bytes_lem t) at fits

  room_values : Room old from (number t ++ bits t)
  room_values = omega (arith, room, length-append (number t ++ bits t) (care_bytes t))

  room_number : Room old from (number t)
  room_number = omega (arith, room_values, length-append (number t) (bits t))

pub put_number-bits_at-requires : goal.put_number-bits_at-requires
put_number-bits_at-requires c =
    let a = c.args in
    (omega (arith, c.requires.0), room_number a.table a.out.now a.at c.requires.2)

pub put_bits-cares_at-requires : goal.put_bits-cares_at-requires
put_bits-cares_at-requires c =
    let a = c.args in
    let t = a.table in
    let long : length t.bytes ≡ 32 = search rules in
    rw c.byte_count.ensures (
      omega (arith, long, bytes_le c.requires.0),
      written_room a.out.now a.at (number t) (bits t) (room_values t a.out.now a.at c.requires.2) c.put_number-bits_at.ensures,
    )

-- after the values
values_put : (c : After-put_bits-cares_at)
    → let a = c.args in Put a.out.now a.at (number a.table ++ bits a.table) c.put_bits-cares_at.new.out c.put_bits-cares_at.result
values_put c =
    let a = c.args in
    let last = rw c.byte_count.ensures at c.put_bits-cares_at.ensures in
    written_next a.out.now a.at (number a.table) (bits a.table) (room_values a.table a.out.now a.at c.requires.2) c.put_number-bits_at.ensures last

pub put_cares-requires : goal.put_cares-requires
put_cares-requires c =
    let a = c.args in
    let t = a.table in
    let put = values_put (goal.at.put_cares-requires c).After-put_bits-cares_at in
    (c.requires.0, c.requires.1, written_room a.out.now a.at (number t ++ bits t) (care_bytes t) (room t a.out.now a.at c.requires.2) put)

pub returns : goal.returns
returns c =
    let a = c.args in
    let t = a.table in
    let put = values_put (goal.at.returns c).After-put_bits-cares_at in
    rw (table_bytes_lem t) (written_next a.out.now a.at (number t ++ bits t) (care_bytes t) (room t a.out.now a.at c.requires.2) put c.put_cares.ensures)
