-- `inputs::put_chow` meets its contract: sixteen bytes fit or are refused. Assumes nothing.
use mathlib.Core.Path.{◌≡◌}
use native.Mathlib.Omega.{arith}
use lib.ListN.{length}
use borrow.Author.Rules.{rules}
use Rattle.numbers.proofs.TabulateLaws.{filled_none, filled_more}
use Rattle.results.proofs.ResultLaws.{wrote_short}
use Rattle.inputs.specs.Inputs.{chow_bytes}
use Rattle.inputs.proofs.ByteLaws.{chow_count, stored_all}
use Rattle.inputs.proofs.inputs.put_chow.Goals as goal
use Rattle.inputs.proofs.inputs.put_chow.Goals.{Start}

-- sixteen bytes
count : (c : Start) → length (chow_bytes c.args.q) ≡ 16
count c = let eight : length c.args.q ≡ 8 = search rules in omega (arith, chow_count c.args.q)

pub returns-then-out-lt16 : goal.returns-then-out-lt16
returns-then-out-lt16 c = wrote_short c.args.out.now (chow_bytes c.args.q) (count (goal.at.returns-then-out-lt16 c).Start) (omega arith)

pub loop-at-init : goal.loop-at-init
loop-at-init c = filled_none _ _

pub loop-at-preserved : goal.loop-at-preserved
loop-at-preserved c = filled_more _ c.args.out.now c.loop-at.at (omega arith) c.loop-at.invariant c.chow_byte.ensures

pub returns : goal.returns
returns c = stored_all c.args.out.now (chow_bytes c.args.q) (count (goal.at.returns c).Start) (omega arith) (omega arith) c.loop-at.invariant
