-- A table that is made by its rows keeps its format, so that the call that writes it refuses for its values on rows that are not cared for, and
-- for its room alone. Assumes nothing.
use Rattle.records.specs.declared.record.Record.TheVariants as Record'
use mathlib.Core.Path.{◌≡◌}
use mathlib.Core.Bool.{Bool}
use mathlib.Core.List.{[], ◌∷◌}
use Prim.Native.Nat.{ℕ, ◌≤◌}
use borrow.Author.Tests.{le-ltb}
use Rattle.numbers.proofs.TestLaws.{or_neither}
use Rattle.table.specs.Table.{input_limit, row_bytes}
use Rattle.table.proofs.RowLaws.{rows_clear}
use Rattle.refusal.specs.Refusal.{NoneBroken, none, also}
use Rattle.refusal.specs.TableRules.{too_many_inputs, spare_bits, table_rules}
use Rattle.refusal.proofs.RefusalLaws.{none_broken_answered}
use Rattle.refusal.proofs.TableChecked.{whole_keeps}
use Rattle.writers.specs.Calls.{write_record}
use Rattle.imports.specs.Imports.{table_with, table_record, table_with_cares, cares_record}

module _ (n : ℕ) (f : ℕ → Bool) (h : n ≤ 8) where
  -- with every row cared for it keeps its rules
  pub made_kept : NoneBroken (table_rules (table_with n f) [])
  made_kept = whole_keeps n (row_bytes n f) h (rows_clear n f h)

  -- and is refused for its room alone
  pub made_written : (room : ℕ) → write_record (Record'.Table (table_with n f)) room ≡ table_record n f room
  made_written room = none_broken_answered (table_rules (table_with n f) []) (table_record n f room) made_kept

  -- with some cared for it may have values on others
  pub cares_written : (g : ℕ → Bool) (room : ℕ) → write_record (Record'.Table (table_with_cares n f g)) room ≡ cares_record n f g room
  cares_written g room =
      let t = table_with_cares n f g in
      none_broken_answered (too_many_inputs n ∷ spare_bits t ∷ []) (cares_record n f g room)
      (also (le-ltb input_limit n h) (also (or_neither (rows_clear n f h) (rows_clear n g h)) none))
