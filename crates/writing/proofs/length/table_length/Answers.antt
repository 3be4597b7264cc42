-- `length::table_length` meets its contract: at most eight inputs have at most 32 bytes of bits, and care bits take as many as values.
-- Assumes nothing.
use mathlib.Core.Path.{◌≡◌, sym, ◌∙◌, ap}
use Prim.Native.Nat.{◌+◌}
use native.Mathlib.Omega.{arith}
use lib.ListN.{length}
use lib.Seq.{length-take-le}
use borrow.Author.Rules.{rules}
use Rattle.table.specs.Table.{byte_count}
use Rattle.table.proofs.TableLaws.{bytes_le}
use Rattle.codec.specs.TableField.{care_bytes, table_bytes}
use Rattle.writing.proofs.TableParts.{table_count, cares_none, cares_some}
use Rattle.writing.proofs.length.table_length.Goals as goal
use Rattle.writing.proofs.length.table_length.Goals.{Start}

-- the bytes of a table, by those of its care bits
counted : (c : Start) → let t = c.args.table in length (table_bytes t) ≡ 1 + byte_count t.n + length (care_bytes t)
counted c =
    let t = c.args.table in
    let long : length t.bytes ≡ 32 = search rules in
    table_count t c.requires.0 long

pub returns-then-is_whole : goal.returns-then-is_whole
returns-then-is_whole c =
    let none = cares_none c.args.table (sym c.is_whole.ensures ∙ c.if-is_whole.true) in
    omega (arith, c.byte_count-bits.ensures, counted (goal.at.returns-then-is_whole c).Start, ap length none)

pub returns : goal.returns
returns c =
    let t = c.args.table in
    let some = cares_some t (sym c.is_whole.ensures ∙ c.if-is_whole.false) in
    let long : length t.cares ≡ 32 = search rules in
    let own = length-take-le (byte_count t.n) t.cares (omega (arith, bytes_le c.requires.0)) in
    omega (arith, c.byte_count-bits.ensures, counted (goal.at.returns c).Start, ap length some, own)
