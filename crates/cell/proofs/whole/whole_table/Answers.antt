-- `crate::whole::whole_table` meets its contract: the test of n says which table it is. Assumes nothing.
use mathlib.Core.Path.{sym, ◌∙◌}
use native.Mathlib.Omega.{arith}
use borrow.Author.Tests.{lt-ltb}
use Rattle.cell.proofs.WholeLaws.{as_whole_lem}
use Rattle.cell.proofs.whole.whole_table.Goals as goal

pub returns-then-n-gt8 : goal.returns-then-n-gt8
returns-then-n-gt8 c = simp (lt-ltb 8 c.args.n (omega (arith, c.if-n-gt8.true)))

pub returns : goal.returns
returns c =
    let a = c.args in
    c.whole_table.ensures ∙ sym (as_whole_lem a.n a.bytes (omega (arith, c.if-n-gt8.false)))
