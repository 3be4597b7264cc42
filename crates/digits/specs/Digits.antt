-- Tables as hex digits, those of the highest four rows first (docs/FORMAT.md, "Hex digits"). No document has this call, and its own numbers
-- start at 101. Definitions only. Assumes nothing.
use Rattle.types.specs.declared.refusal.Refusal.TheVariants as Refusal'
use Rattle.std.specs.Prelude.{Bool, not, cond, ◌&&◌, List, [], ◌∷◌, ℕ, ◌+◌, ◌-◌, ◌/◌, ◌%◌, eqb, leb, ltb, length, get_or}
use Rattle.numbers.specs.Packed.{bit_in}
use Rattle.numbers.specs.Tests.{all_below}
use Rattle.table.specs.Table.{rows_of}
use Rattle.refusal.specs.Refusal.{Rule, rule, Answered, checked}
use Rattle.refusal.specs.TableRules.{too_many_inputs}
use Rattle.imports.specs.Imports.{table_record}

-- a character lies between two
abbrev pub between : ℕ → ℕ → ℕ → Bool
between low high c = leb low c && leb c high

-- the value of a digit, 0 to 9, A to F or a to f; 16 for any other character
unfoldable pub digit_value : ℕ → ℕ
digit_value c = cond (between 48 57 c) (c - 48) (cond (between 65 70 c) (c - 65 + 10) (cond (between 97 102 c) (c - 97 + 10) 16))

-- how many digits a table of n inputs has: one for each four rows, and one where there are fewer
abbrev pub digit_count : ℕ → ℕ
digit_count n = (rows_of n + 3) / 4

-- the value of the digit at place i, counted from the last, which is place 0
abbrev pub digit_at : List ℕ → ℕ → ℕ
digit_at digits i = digit_value (get_or digits (length digits - 1 - i) 0)

-- row r is bit r mod 4 of digit r div 4
abbrev pub digit_row : List ℕ → ℕ → Bool
digit_row digits r = bit_in (digit_at digits (r / 4)) (r % 4)

-- 101: not as many digits as the table has
abbrev pub other_digits : ℕ → List ℕ → Rule
other_digits n digits = rule Refusal'.Digits (not (eqb (length digits) (digit_count n)))

-- 102: a character that is not a digit
abbrev pub is_digit : List ℕ → ℕ → Bool
is_digit digits i = ltb (digit_value (get_or digits i 0)) 16

abbrev pub no_digit : List ℕ → Rule
no_digit digits = rule Refusal'.Digit (not (all_below (length digits) (is_digit digits)))

-- the record of the table that digits stand for: 2, 101, 102, 12
abbrev pub from_hex : ℕ → List ℕ → ℕ → Answered (List ℕ)
from_hex n digits room = checked (too_many_inputs n ∷ other_digits n digits ∷ no_digit digits ∷ []) (table_record n (digit_row digits) room)
