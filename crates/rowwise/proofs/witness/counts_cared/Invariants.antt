-- `witness::counts_cared` meets its contract. The loop's invariant: the rows below `row` are cared for or have no count. Assumes nothing.
use mathlib.Core.Path.{◌≡◌, ap}
use mathlib.Core.Bool.{Bool, true, false, ◌||◌}
use mathlib.Core.List.{List}
use Prim.Native.Nat.{ℕ, ◌<◌}
use lib.Dec.{eqb}
use Rattle.numbers.specs.Tests.{all_below}
use Rattle.numbers.proofs.TestLaws.{all_below_from, all_below_fails}
use Rattle.types.specs.declared.table.Table.{Table}
use Rattle.function.specs.Witness.{count_of, counts_cared}
use Rattle.table.specs.Table.{rows, cared, function_of}
use Rattle.rowwise.proofs.witness.counts_cared.Given as goal

module _ (t : Table) (counts : List ℕ) where
  -- whether a row is cared for or has no count
  abbrev pub allowed : ℕ → Bool
  allowed r = cared t r || eqb (count_of counts r) 0

  pub cared_fails : (r : ℕ) → r < rows t → allowed r ≡ false → counts_cared (function_of t) (count_of counts) ≡ false
  unfolding counts_cared
  cared_fails r h e = all_below_fails (rows t) allowed r h e

  pub cared_all : all_below (rows t) allowed ≡ true → counts_cared (function_of t) (count_of counts) ≡ true
  unfolding counts_cared
  cared_all e = e

  -- where every row is cared for each may have a count
  pub cared_whole : ((r : ℕ) → r < rows t → cared t r ≡ true) → counts_cared (function_of t) (count_of counts) ≡ true
  cared_whole every = cared_all (all_below_from (rows t) allowed (λ r h. ap (λ (b : Bool). b || eqb (count_of counts r) 0) (every r h)))

abbrev pub invariant-loop-row : goal.invariant-loop-row
invariant-loop-row l = all_below l.row (allowed l.table l.fn.counts) ≡ true
