-- The rows of a table as bits of words, in which the search for a binate input works: row r is bit r mod 64 of word r div 64.
-- For the inside of the machine alone. Definitions only. Assumes nothing.
use Rattle.std.specs.Prelude.{Bool, true, false, ◌&&◌, List, ℕ, ◌+◌, ◌*◌, ◌^◌, eqb}
use Rattle.numbers.specs.Packed.{packed}
use Rattle.numbers.specs.Tabulate.{tabulate}
use Rattle.numbers.specs.Tests.{same_bool}
use Rattle.types.specs.declared.table.Table.{Table}
use Rattle.table.specs.Table.{rows, bit_at}
use Rattle.function.specs.Function.{level}
use Rattle.scan.specs.Scan.{in_table}
use Rattle.unateness.specs.declared.words.Pairs.{Pairs}
use Rattle.unateness.specs.declared.words.Sides.{Sides}

-- word k of the values of f: row 64k + j is its bit j
abbrev pub word_of : (ℕ → Bool) → ℕ → ℕ
word_of f k = packed 64 (λ j. f (64 * k + j))

-- the bits of a table's bytes from row r on
abbrev pub bits_from : List ℕ → ℕ → ℕ → Bool
bits_from bytes r j = bit_at bytes (r + j)

-- a row of the table that is cared for and whose value is `side`
abbrev pub on_side : Table → Bool → ℕ → Bool
on_side t side r = in_table (rows t) t.cares r && same_bool (in_table (rows t) t.bytes r) side

-- the words of a table: of its true rows, and of its false rows, that are cared for
abbrev pub side_words : Table → Sides
side_words t = record { trues = tabulate 4 (word_of (on_side t true)); falses = tabulate 4 (word_of (on_side t false)) }

-- the place's input is false in row r
abbrev pub lacks : ℕ → ℕ → Bool
lacks place r = eqb (level 2 r place) 0

-- row r's bit where r lacks the place's input
abbrev pub own_at : (ℕ → Bool) → ℕ → ℕ → Bool
own_at f place r = lacks place r && f r

-- and the bit of its partner, the row with the input true besides
abbrev pub partner_at : (ℕ → Bool) → ℕ → ℕ → Bool
partner_at f place r = lacks place r && f (r + 2 ^ place)

-- word k of the pairs of a place's input
abbrev pub pairs_of : (ℕ → Bool) → ℕ → ℕ → Pairs
pairs_of f place k = record { own = word_of (own_at f place) k; partner = word_of (partner_at f place) k }
