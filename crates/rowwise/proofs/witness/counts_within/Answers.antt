-- `witness::counts_within` meets its contract: counts are within the limit exactly if each is. Assumes nothing.
use Rattle.std.proofs.Common.{rules, ℕ, ◌≤◌, ◌<◌, List, length, drop, get_or, arith, take, ◌-◌, ◌∙◌, ap}
use Rattle.std.proofs.lemmas.List.{take_all, length-drop}
use Rattle.std.specs.Bool.{Decides}
use Rattle.std.proofs.lemmas.Bool.Decides.{same_from_decides}
use Rattle.numbers.specs.Tests.{all_at_most}
use Rattle.numbers.proofs.TestLaws.{all_at_most_at, all_at_most_from}
use Rattle.rowwise.proofs.witness.counts_within.Goals as goal

-- each number of a list
abbrev Each : ℕ → List ℕ → Type 0
Each limit xs = (i : ℕ) → i < length xs → get_or xs i 0 ≤ limit

each_within : (limit : ℕ) (xs : List ℕ) → Decides (all_at_most limit xs) (Each limit xs)
each_within limit xs = (λ e i l. all_at_most_at limit xs e i, all_at_most_from limit xs)

pub returns : goal.returns
returns c =
    let a = c.args in
    let rest = take (256 - a.from) (drop a.from a.counts.now) in
    let tested : Decides c.all.result (Each a.limit rest) = search rules in
    let whole = take_all (256 - a.from) (drop a.from a.counts.now) (omega (arith, c.requires, length-drop a.from a.counts.now)) in
    same_from_decides _ _ tested (each_within a.limit rest) ∙ ap (all_at_most a.limit) whole
