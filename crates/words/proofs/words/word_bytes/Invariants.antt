-- `words::word_bytes` meets its contract. The loop's invariant: the bytes of the rows below `at` are stored into zeros. Assumes nothing.
use mathlib.Core.Path.{◌≡◌}
use lib.ListN.{replicate}
use Rattle.numbers.proofs.TabulateLaws.{filled}
use Rattle.table.specs.Table.{rows_of, row_byte}
use Rattle.words.specs.Words.{word_row}
use Rattle.words.proofs.words.word_bytes.Given as goal

abbrev pub invariant-loop-at : goal.invariant-loop-at
invariant-loop-at l = l.bytes ≡ filled (row_byte (rows_of l.n) (word_row l.words)) (replicate 32 0) l.at
