-- Tables that come as hex digits or as words of 64 rows: what the record that a call writes means, row by row (docs/FORMAT.md, "Hex digits" and
-- "Words"). Statements alone; they cite the definitions that the contracts cite. Assumes nothing.
use Rattle.records.specs.declared.record.Record.TheVariants as Record'
use Rattle.std.specs.Prelude.{◌≡◌, Bool, true, List, ℕ, ◌<◌, Ok}
use Rattle.types.specs.declared.table.Table.{Table}
use Rattle.table.specs.Table.{rows_of, value, cared}
use Rattle.records.specs.Record.{read_record}
use Rattle.words.specs.Words.{word_row, from_words, from_cares}
use Rattle.digits.specs.Digits.{digit_row, from_hex}

-- bytes are read as a table of n inputs that has the values of f on its rows, and cares for those that c passes
pub record IsTable (n : ℕ) (f c : ℕ → Bool) (bytes : List ℕ) : Type 0 where
  pub table : Table
  pub read : read_record bytes ≡ Ok (Record'.Table table)
  pub inputs : table.n ≡ n
  pub rows : (r : ℕ) → r < rows_of n → value table r ≡ f r
  pub cares : (r : ℕ) → r < rows_of n → cared table r ≡ c r

-- what is written of digits or words is read as the table whose row r is bit r mod 4 of digit r div 4, counted from the last, or bit r mod 64 of
-- word r div 64, with every row cared for, or those of the care words
pub record TablesFromElsewhere : Type 0 where
  pub hex : (n : ℕ) (digits : List ℕ) (room : ℕ) (bytes : List ℕ) → from_hex n digits room ≡ Ok bytes → IsTable n (digit_row digits) (λ r. true) bytes
  pub words : (n : ℕ) (ws : List ℕ) (room : ℕ) (bytes : List ℕ) → from_words n ws room ≡ Ok bytes → IsTable n (word_row ws) (λ r. true) bytes
  pub cares : (n : ℕ) (ws cs : List ℕ) (room : ℕ) (bytes : List ℕ) → from_cares n ws cs room ≡ Ok bytes → IsTable n (word_row ws) (word_row cs) bytes
