-- `chow::true_rows` meets its contract: counts that are 1 at every row of the table count its true rows. Assumes nothing.
use mathlib.Core.Path.{◌∙◌}
use mathlib.Core.Bool.{true}
use Prim.Native.Nat.{ℕ, zero, suc, ◌≤◌}
use native.Mathlib.Omega.{arith}
use borrow.Author.Rules.{rules}
use lib.ListN.{replicate, get_or-replicate}
use Rattle.numbers.proofs.TabulateLaws.{tabulate_ext}
use Rattle.function.specs.Witness.{count_of}
use Rattle.function.proofs.WitnessLaws.{side_sum_ext}
use Rattle.table.specs.Table.{function_of}
use Rattle.table.specs.Chow.{true_rows}
use Rattle.table.proofs.TableLaws.{rows_le}
use Rattle.sides.proofs.chow.true_rows.Goals as goal

-- counts of 1 are at most 1
one_most : (n r : ℕ) → count_of (replicate n 1) r ≤ 1
one_most zero r = omega arith
one_most (suc n) zero = omega arith
one_most (suc n) (suc r) = one_most n r

pub side_sums-requires : goal.side_sums-requires
side_sums-requires c = (c.requires, record { size = search rules; fits = λ r. omega (arith, one_most 256 r) })

pub returns : goal.returns
unfolding true_rows
returns c =
    let t = c.args.table in
    c.side_sums.ensures
    ∙ tabulate_ext _ (true_rows t) 9
    (λ i l. side_sum_ext (function_of t) true (count_of (replicate 256 1)) (λ r. 1) i (λ r h. get_or-replicate 256 r 1 0 (omega (arith, rows_le c.requires))))
