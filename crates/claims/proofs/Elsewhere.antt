-- What is written of hex digits or words is the record of the table with their rows, and is read as that table. Assumes nothing.
use Rattle.records.specs.declared.record.Record.TheVariants as Record'
use Rattle.std.specs.Prelude.{Ok}
use mathlib.Core.Path.{◌≡◌, refl, ◌∙◌}
use mathlib.Core.Bool.{Bool, true}
use mathlib.Core.List.{List, [], ◌∷◌}
use Prim.Native.Nat.{ℕ, ◌≤◌}
use borrow.Author.Tests.{ltb-false}
use Rattle.table.specs.Table.{input_limit, row_bytes}
use Rattle.table.proofs.RowLaws.{ByteArray, rows_long, row_byte_lt, row_is}
use Rattle.refusal.specs.Refusal.{NoneBroken, also}
use Rattle.refusal.specs.TableRules.{too_many_inputs}
use Rattle.writers.specs.Calls.{write_record}
use Rattle.writers.proofs.ReadBack.{read_back}
use Rattle.imports.specs.Imports.{table_record, table_with_cares, cares_record}
use Rattle.words.specs.Words.{word_row, few_words, from_words, from_cares}
use Rattle.digits.specs.Digits.{digit_row, other_digits, no_digit, from_hex}
use Rattle.imports.proofs.RowLaws.{made_written, cares_written}
use Rattle.claims.specs.Elsewhere.{IsTable}
use Rattle.claims.proofs.Rules.{rules_answered}

-- the arrays of a table by its rows are the code's
module _ (n : ℕ) (f g : ℕ → Bool) (few : n ≤ 8) where
  array : (c : ℕ → Bool) → ByteArray (row_bytes n c)
  array c = record { size = rows_long n c few; fits = row_byte_lt n c few }

  -- a table's record that was written is read as the table
  is_table : (room : ℕ) (bytes : List ℕ) → write_record (Record'.Table (table_with_cares n f g)) room ≡ Ok bytes → IsTable n f g bytes
  is_table room bytes wrote = record {
    table = table_with_cares n f g;
    read = read_back (Record'.Table (table_with_cares n f g)) (record { long = rows_long n f few; cares = array g }) room bytes wrote;
    inputs = refl;
    rows = row_is n f few;
    cares = row_is n g few;
  }

pub from_hex_lem : (n : ℕ) (digits : List ℕ) (room : ℕ) (bytes : List ℕ) → from_hex n digits room ≡ Ok bytes → IsTable n (digit_row digits) (λ r. true) bytes
from_hex_lem n digits room bytes e =
    by (rules_answered (too_many_inputs n ∷ other_digits n digits ∷ no_digit digits ∷ []) (table_record n (digit_row digits) room) bytes e)
  where
    by : NoneBroken (too_many_inputs n ∷ other_digits n digits ∷ no_digit digits ∷ []) × (table_record n (digit_row digits) room ≡ Ok bytes)
        → IsTable n (digit_row digits) (λ r. true) bytes
    by (also few rest, wrote) =
        let most = ltb-false input_limit n few in
        is_table n (digit_row digits) (λ r. true) most room bytes (made_written n (digit_row digits) most room ∙ wrote)

pub from_words_lem : (n : ℕ) (words : List ℕ) (room : ℕ) (bytes : List ℕ) → from_words n words room ≡ Ok bytes → IsTable n (word_row words) (λ r. true) bytes
from_words_lem n words room bytes e = by (rules_answered (too_many_inputs n ∷ few_words n words ∷ []) (table_record n (word_row words) room) bytes e)
  where
    by : NoneBroken (too_many_inputs n ∷ few_words n words ∷ []) × (table_record n (word_row words) room ≡ Ok bytes)
        → IsTable n (word_row words) (λ r. true) bytes
    by (also few rest, wrote) =
        let most = ltb-false input_limit n few in
        is_table n (word_row words) (λ r. true) most room bytes (made_written n (word_row words) most room ∙ wrote)

pub from_cares_lem : (n : ℕ) (words cares : List ℕ) (room : ℕ) (bytes : List ℕ) → from_cares n words cares room ≡ Ok bytes
    → IsTable n (word_row words) (word_row cares) bytes
from_cares_lem n words cares room bytes e =
    by (rules_answered (too_many_inputs n ∷ few_words n words ∷ few_words n cares ∷ []) (cares_record n (word_row words) (word_row cares) room) bytes e)
  where
    by : NoneBroken (too_many_inputs n ∷ few_words n words ∷ few_words n cares ∷ []) × (cares_record n (word_row words) (word_row cares) room ≡ Ok bytes)
        → IsTable n (word_row words) (word_row cares) bytes
    by (also few rest, wrote) =
        let most = ltb-false input_limit n few in
        is_table n (word_row words) (word_row cares) most room bytes (cares_written n (word_row words) most (word_row cares) room ∙ wrote)
