-- `digits::digit_bytes` meets its contract, by the bytes stored. Assumes nothing.
use mathlib.Core.Path.{◌≡◌, ◌∙◌}
use native.Mathlib.Omega.{arith}
use lib.ListN.{replicate}
use Rattle.numbers.proofs.TabulateLaws.{filled_none, filled_more}
use Rattle.table.proofs.TableLaws.{bytes_le}
use Rattle.table.proofs.RowLaws.{rows_made}
use Rattle.digits.specs.Digits.{digit_row}
use Rattle.digits.proofs.digits.digit_bytes.Goals as goal

pub loop-at-init : goal.loop-at-init
loop-at-init c = filled_none _ _

pub loop-at-preserved : goal.loop-at-preserved
loop-at-preserved c =
    filled_more _ (replicate 32 0) c.loop-at.at (omega (arith, c.byte_count-count.ensures, bytes_le c.requires.0)) c.loop-at.invariant c.digit_byte.ensures

pub returns : goal.returns
returns c =
    let last : c.loop-at.at ≡ c.byte_count-count.result = omega arith in
    rows_made c.args.n (digit_row c.args.digits.now) c.requires.0 (last ∙ c.byte_count-count.ensures) c.loop-at.invariant
