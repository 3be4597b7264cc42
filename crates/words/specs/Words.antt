-- Tables as words of 64 rows, those of the lowest rows first, with words of care bits or without (docs/FORMAT.md, "Words"). No document has
-- these calls, and their own number is 103. Definitions only. Assumes nothing.
use Rattle.types.specs.declared.refusal.Refusal.TheVariants as Refusal'
use Rattle.std.specs.Prelude.{Bool, List, [], ◌∷◌, ℕ, ◌+◌, ◌/◌, ◌%◌, ltb, length, get_or}
use Rattle.numbers.specs.Packed.{bit_in}
use Rattle.table.specs.Table.{rows_of}
use Rattle.refusal.specs.Refusal.{Rule, rule, Answered, checked}
use Rattle.refusal.specs.TableRules.{too_many_inputs}
use Rattle.imports.specs.Imports.{table_record, cares_record}

-- how many words a table of n inputs has: one for each 64 rows, and one where there are fewer
abbrev pub word_count : ℕ → ℕ
word_count n = (rows_of n + 63) / 64

-- row r is bit r mod 64 of word r div 64; bits and words past the table's rows are left out of account
abbrev pub word_row : List ℕ → ℕ → Bool
word_row words r = bit_in (get_or words (r / 64) 0) (r % 64)

-- 103: fewer words than the table has
abbrev pub few_words : ℕ → List ℕ → Rule
few_words n words = rule Refusal'.Words (ltb (length words) (word_count n))

-- the record of the table that words stand for: 2, 103, 12
abbrev pub from_words : ℕ → List ℕ → ℕ → Answered (List ℕ)
from_words n words room = checked (too_many_inputs n ∷ few_words n words ∷ []) (table_record n (word_row words) room)

-- the record of the table that words and care words stand for, where row r is cared for if that bit of the care words is 1: 2, 103 of either, 16, 12
abbrev pub from_cares : ℕ → List ℕ → List ℕ → ℕ → Answered (List ℕ)
from_cares n words cares room =
    checked (too_many_inputs n ∷ few_words n words ∷ few_words n cares ∷ []) (cares_record n (word_row words) (word_row cares) room)
