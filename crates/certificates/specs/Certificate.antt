-- A record that was read, looked at: its kind (document 01, "Records"; document 02, §3), whether its gate or witness holds, and the value of its
-- table or gate on a row. A kind that has none is 100 (docs/FORMAT.md, "Refusals"). Definitions only. Assumes nothing.
use Rattle.std.specs.Prelude.{ℕ, Err}
use Rattle.types.specs.declared.refusal.Refusal.TheVariants as Refusal'
use Rattle.records.specs.declared.record.Record.TheVariants as Record'
use Rattle.refusal.specs.Refusal.{Answered}
use Rattle.cell.specs.Calls.{check_gate, check_witness, table_value, gate_value}
use Rattle.codec.specs.Kind.{head_kind}
use Rattle.records.specs.declared.record.Record.{Record}
use Rattle.records.specs.Record.{head_in}
use Rattle.results.specs.Result.{said}

-- the kind of a record, 1 to 6: that of its family, by whether every row of its table is cared for
abbrev pub kind_in : Record → ℕ
kind_in x = head_kind (head_in x)

-- whether the gate realises the table, or the witness balances
abbrev pub check_in : Record → Answered ℕ
check_in (Record'.Table t) = Err Refusal'.OtherKind
check_in (Record'.Gate t g) = said (check_gate t g)
check_in (Record'.Witness t w) = said (check_witness t w)
check_in (Record'.Job j) = Err Refusal'.OtherKind

-- the table's value on a row, or the gate's: 14
abbrev pub value_in : ℕ → Record → Answered ℕ
value_in at (Record'.Table t) = said (table_value t at)
value_in at (Record'.Gate t g) = said (gate_value g at)
value_in at (Record'.Witness t w) = Err Refusal'.OtherKind
value_in at (Record'.Job j) = Err Refusal'.OtherKind
