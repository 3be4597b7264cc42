-- A table by its rows, with the care bits of its rows or without, as a record (docs/FORMAT.md, "Hex digits" and "Words"). Definitions only.
-- Assumes nothing.
use Rattle.records.specs.declared.record.Record.TheVariants as Record'
use Rattle.std.specs.Prelude.{Bool, List, [], ◌∷◌, ℕ}
use Rattle.types.specs.declared.table.Table.{Table}
use Rattle.table.specs.Table.{row_bytes, whole_table}
use Rattle.refusal.specs.Refusal.{Answered, checked}
use Rattle.refusal.specs.TableRules.{stray_values}
use Rattle.codec.specs.TableField.{table_of}
use Rattle.records.specs.Record.{record_bytes}
use Rattle.writers.specs.Calls.{fitted}

-- the table of n inputs that is true on the rows of f, and has every row cared for
abbrev pub table_with : ℕ → (ℕ → Bool) → Table
table_with n f = whole_table n (row_bytes n f)

-- its record: 12
abbrev pub table_record : ℕ → (ℕ → Bool) → ℕ → Answered (List ℕ)
table_record n f room = fitted room (record_bytes (Record'.Table (table_with n f)))

-- the table of n inputs that is true on the rows of f, and has those of g cared for
abbrev pub table_with_cares : ℕ → (ℕ → Bool) → (ℕ → Bool) → Table
table_with_cares n f g = table_of n (row_bytes n f) (row_bytes n g)

-- its record, kind 1 if every row is cared for, else kind 5. 16: a row that is not cared for has a value bit; then 12
abbrev pub cares_record : ℕ → (ℕ → Bool) → (ℕ → Bool) → ℕ → Answered (List ℕ)
cares_record n f g room = let t = table_with_cares n f g in checked (stray_values t ∷ []) (fitted room (record_bytes (Record'.Table t)))
