-- `steps::step_table` meets its contract: a test that antt computes compares each of the 2,048 entries with its step.
-- Assumes nothing.
use mathlib.Core.Path.{refl}
use mathlib.Core.List.{List}
use lib.IntN.{ℤ}
use borrow.Fn.Function.{res_v}
use Rattle.numbers.specs.Sum.{sum_below}
use Rattle.correction.specs.Steps.{shared, step_at}
use Rattle.correction.proofs.Entries.{agrees, holds_agree}
use Rattle.correction.proofs.steps.step_table.Reads as reads
use Rattle.correction.proofs.steps.step_table.Lts as lts
use Rattle.correction.proofs.steps.step_table.Goals as goal
use Rattle.correction.proofs.steps.step_table.Goals.{Start}

-- the table that the function returns
abbrev table : Start → List ℤ
table c = res_v lts.r tt (lts.m2 reads.Pre reads.Post c.args).0

pub returns : goal.returns
unfolding agrees sum_below shared step_at
returns c = holds_agree step_at (table c) refl
