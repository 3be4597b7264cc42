-- A table as it is written: n, which is one byte, the bytes of its values, and those of its care bits, where a row is not cared for; and how
-- many they are. Assumes nothing.
use mathlib.Core.Path.{◌≡◌, sym}
use mathlib.Core.Bool.{Bool, true, false, cond}
use mathlib.Core.List.{List, [], ◌++◌, append_assoc}
use Prim.Native.Nat.{ℕ, ◌+◌, ◌≤◌}
use native.Mathlib.Nat.{min-le_left}
use native.Mathlib.Omega.{arith}
use lib.ListN.{length, take, length-append, length-take}
use lib.Seq.{length-take-le}
use Rattle.types.specs.declared.table.Table.{Table}
use Rattle.table.specs.Table.{byte_count, is_whole}
use Rattle.table.proofs.TableLaws.{bytes_le}
use Rattle.codec.specs.Number.{number_bytes}
use Rattle.codec.specs.TableField.{care_bytes, table_bytes}
use Rattle.codec.proofs.NumberLaws.{number_one, number_length}

-- n and the values, which stand before the care bits
abbrev pub value_bytes : Table → List ℕ
value_bytes t = number_bytes t.n ++ take (byte_count t.n) t.bytes

-- the bytes of a table
pub table_bytes_lem : (t : Table) → table_bytes t ≡ value_bytes t ++ care_bytes t
unfolding table_bytes
table_bytes_lem t = sym (append_assoc (number_bytes t.n) (take (byte_count t.n) t.bytes) (care_bytes t))

-- the care bits take none where every row is cared for, and else as many as the values
pub cares_none : (t : Table) → is_whole t ≡ true → care_bytes t ≡ []
cares_none t e = rw e

pub cares_some : (t : Table) → is_whole t ≡ false → care_bytes t ≡ take (byte_count t.n) t.cares
cares_some t e = rw e

-- how many there are
pub table_count : (t : Table) → t.n ≤ 8 → length t.bytes ≡ 32 → length (table_bytes t) ≡ 1 + byte_count t.n + length (care_bytes t)
table_count t h e =
    rw (table_bytes_lem t, length-append, number_one t.n (omega arith), length-take-le (byte_count t.n) t.bytes (omega (arith, bytes_le h))) (omega arith)

-- at most 67: a number takes at most three
pub table_most : (t : Table) → t.n ≤ 8 → length (table_bytes t) ≤ 67
table_most t h =
    rw (table_bytes_lem t, length-append, length-append, length-take)
    (omega (arith, number_length t.n, min-le_left (byte_count t.n) (length t.bytes), by (is_whole t), bytes_le h))
  where
    by : (whole : Bool) → length {A = ℕ} (cond whole [] (take (byte_count t.n) t.cares)) ≤ 32
    by true = omega arith
    by false = rw length-take (omega (arith, min-le_left (byte_count t.n) (length t.cares), bytes_le h))
