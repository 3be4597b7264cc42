-- `keys::free_bytes` meets its contract, by the bytes stored. Assumes nothing.
use mathlib.Core.Path.{refl}
use native.Mathlib.Omega.{arith}
use borrow.Author.Rules.{rules}
use lib.ListN.{get_or, replicate}
use mir.Syntax.{w8}
use mir.Val.{Fits}
use Rattle.numbers.proofs.TabulateLaws.{filled_none, filled_more}
use Rattle.table.proofs.TableLaws.{bytes_le}
use Rattle.table.proofs.RowLaws.{ByteArray}
use Rattle.search.proofs.BitLaws.{not_at}
use Rattle.search.proofs.keys.free_bytes.Goals as goal
use Rattle.search.proofs.keys.free_bytes.Goals.{Start}

pub loop-at-init : goal.loop-at-init
loop-at-init c = filled_none _ _

cares_of : (c : Start) → ByteArray c.args.table.cares
cares_of c = record {
  size = search rules;
  fits = λ i l. let byte : Fits w8 (get_or c.args.table.cares i 0) = search rules in byte.fits;
}

pub loop-at-preserved : goal.loop-at-preserved
loop-at-preserved c = filled_more _ (replicate 32 0) c.loop-at.at (omega (arith, c.byte_count-at-end.ensures, bytes_le c.requires)) c.loop-at.invariant refl

pub returns : goal.returns
returns c row l =
    let start = (goal.at.returns c).Start in
    let count = c.byte_count-at-end.ensures in
    not_at (replicate 32 0) c.loop-at.at (cares_of start) (omega (arith, count, bytes_le c.requires)) c.loop-at.invariant row (omega (arith, count))
