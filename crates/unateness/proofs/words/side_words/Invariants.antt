-- `words::side_words` meets its contract. The loop's invariant: the words of both sides below `at` are made. Assumes nothing.
use mathlib.Core.Path.{◌≡◌}
use mathlib.Core.List.{List}
use Prim.Native.Nat.{ℕ, ◌-◌, ◌^◌}
use lib.Bits.{bit_and}
use Rattle.numbers.proofs.TabulateLaws.{filled}
use Rattle.table.specs.Table.{rows, bit_at}
use Rattle.scan.specs.Scan.{in_table}
use Rattle.unateness.specs.Words.{word_of}
use Rattle.unateness.proofs.words.side_words.Given as goal

-- a word of the true rows, and one of the false rows, as the code makes them
abbrev pub on : (bytes cares : List ℕ) (rows : ℕ) → ℕ → ℕ
on bytes cares rows k = bit_and (word_of (in_table rows cares) k) (word_of (bit_at bytes) k)

abbrev pub off : (bytes cares : List ℕ) (rows : ℕ) → ℕ → ℕ
off bytes cares rows k = bit_and (word_of (in_table rows cares) k) (2 ^ 64 - 1 - word_of (bit_at bytes) k)

abbrev pub invariant-loop-at : goal.invariant-loop-at
invariant-loop-at l =
    (l.trues ≡ filled (on l.table.bytes l.table.cares l.rows) l.initial.trues l.at) × (l.falses ≡ filled (off l.table.bytes l.table.cares l.rows) l.initial.falses l.at)
