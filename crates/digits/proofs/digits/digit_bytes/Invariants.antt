-- `digits::digit_bytes` meets its contract. The loop's invariant: the bytes of the rows below `at` are stored into zeros. Assumes nothing.
use mathlib.Core.Path.{◌≡◌}
use lib.ListN.{replicate}
use Rattle.numbers.proofs.TabulateLaws.{filled}
use Rattle.table.specs.Table.{rows_of, row_byte}
use Rattle.digits.specs.Digits.{digit_row}
use Rattle.digits.proofs.digits.digit_bytes.Given as goal

abbrev pub invariant-loop-at : goal.invariant-loop-at
invariant-loop-at l = l.bytes ≡ filled (row_byte (rows_of l.n) (digit_row l.digits)) (replicate 32 0) l.at
