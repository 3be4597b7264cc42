-- `balance::is_balanced` meets its contract: where the total is not 0, the sums are compared, and the cares of the counts decide where they are
-- the same. Assumes nothing.
use Rattle.std.proofs.Common.{rules, ◌≡◌, Bool, true, false, ℕ, suc, ◌<◌, sym, ◌∙◌, ap, arith, ◌&&◌, eqb}
use borrow.Author.Tests.{lt-ltb, le-ltb}
use Rattle.numbers.specs.Tests.{all_below}
use Rattle.function.specs.Function.{Function}
use Rattle.function.specs.Witness.{count_of, side_sum, counts_cared, balances}
use Rattle.table.specs.Table.{function_of}
use Rattle.table.specs.Witness.{CountArray}
use Rattle.table.proofs.WitnessLaws.{count_array}
use Rattle.sides.proofs.SideLaws.{sum_at, sums_same}
use Rattle.sides.proofs.balance.is_balanced.Goals as goal
use Rattle.sides.proofs.balance.is_balanced.Goals.{After-eq, Start}

-- whether both sides have the same sum for each input
abbrev same : Function → (ℕ → ℕ) → Bool
same f count = all_below (suc f.places) (λ i. eqb (side_sum f true count i) (side_sum f false count i))

-- counts whose total is 0 do not balance
none : (f : Function) (count : ℕ → ℕ) → side_sum f true count 0 ≡ 0 → false ≡ balances f count
unfolding balances
none f count zero = rw (le-ltb 0 (side_sum f true count 0) (omega arith))

-- others do where the sums are the same and no count is on a row that is not cared for
some : (f : Function) (count : ℕ → ℕ) → 0 < side_sum f true count 0 → balances f count ≡ (same f count && counts_cared f count)
unfolding balances
some f count above = rw (lt-ltb 0 (side_sum f true count 0) above)

-- the counts are lent
counts_lent : (c : Start) → CountArray c.args.witness.counts
counts_lent c = count_array (search rules) (λ r. search rules)

pub side_sums-trues-requires : goal.side_sums-trues-requires
side_sums-trues-requires c = (c.requires, counts_lent (goal.at.side_sums-trues-requires c).Start)

pub side_sums-falses-requires : goal.side_sums-falses-requires
side_sums-falses-requires c = (c.requires, counts_lent (goal.at.side_sums-falses-requires c).Start)

pub returns-then-trues-eq0 : goal.returns-then-trues-eq0
returns-then-trues-eq0 c = none _ _ (sym (sum_at _ 0 c.side_sums-trues.ensures (omega arith)) ∙ c.if-trues-eq0.true)

-- where the total is not 0, the comparison and the cares decide
decided : (c : After-eq) → let f = function_of c.args.table in let count = count_of c.args.witness.counts in balances f count ≡ (c.eq.result && counts_cared f count)
decided c =
    let f = function_of c.args.table in
    let count = count_of c.args.witness.counts in
    let total = sum_at (side_sum f true count) 0 c.side_sums-trues.ensures (omega arith) in
    let above : 0 < side_sum f true count 0 = omega (arith, c.if-trues-eq0.false) in
    let same = c.eq.ensures ∙ sums_same _ _ c.args.table.n c.requires c.side_sums-trues.ensures c.side_sums-falses.ensures in
    some f count above ∙ ap (λ (b : Bool). b && counts_cared f count) (sym same)

pub returns-then-eq : goal.returns-then-eq
returns-then-eq c = rw (decided (goal.at.returns-then-eq c).After-eq, c.if-eq.true) c.counts_cared-cared.ensures

pub returns-else-eq : goal.returns-else-eq
returns-else-eq c = rw (decided (goal.at.returns-else-eq c).After-eq, c.if-eq.false)
