-- The stepping machine (document 01, "The stepping machine"): the perceptron rule with unit corrections, and Brent's search for a cycle.
-- Its steps: 1 and 2 `corrected`, by the row that `step_by` takes; 3 `closed`; 4 `marked`; 5 `settled`. Definitions only. Assumes nothing.
use Rattle.std.specs.Prelude.{Bool, true, false, List, ℕ, zero, suc, ◌+◌, eqb}
use Rattle.std.specs.Prelude.{Option, Some, None}
use Rattle.function.specs.Witness.{one_more, zeros}
use Rattle.types.specs.declared.stage.Stage.{Stage}
use Rattle.types.specs.declared.stage.Stage.TheVariants.{Open, Found, Looped, Binate}
use Rattle.types.specs.declared.state.State.{State}
use Rattle.function.specs.Function.{Function, levels}
use Rattle.function.specs.Vector.{corrected_by, same_vector, zero_vector}
use Rattle.function.specs.Failing.{failing}
use Rattle.function.specs.Binate.{binate_place, binate_counts}
use Rattle.numbers.specs.Power.{highest}

-- ---- fresh

-- all numbers 0 but the counts
abbrev pub start_state : List ℕ → Stage → State
start_state counts stage = record { k = 0; v = zero_vector; mark = 0; s = zero_vector; counts = counts; stage = stage }

-- where no input is binate: open, or found where no row fails. Every row that is cared for fails at v = 0, so a table with such a row is open
-- (claimed: `TablesAsWritten`), and one without is found, with K 0 (document 02, §3)
abbrev pub start_stage : Option ℕ → Stage
start_stage (Some r) = Open
start_stage None = Found

-- a function with a binate input has the counts of the lowest, in stage binate; any other has none
abbrev pub fresh_by : Function → Option ℕ → State
fresh_by f None = start_state zeros (start_stage (failing f zero_vector))
fresh_by f (Some place) = start_state (binate_counts f place) Binate

unfoldable pub fresh : Function → State
fresh f = fresh_by f (binate_place f)

-- ---- one step

abbrev pub with_stage : Stage → State → State
with_stage stage x = record { k = x.k; v = x.v; mark = x.mark; s = x.s; counts = x.counts; stage = stage }

-- steps 1 and 2: the correction of v by the row, K + 1, and the row's count + 1
unfoldable pub corrected : Function → ℕ → State → State
corrected f r x = record {
  k = x.k + 1;
  v = corrected_by (f.value r) (levels f r) x.v;
  mark = x.mark;
  s = x.s;
  counts = one_more r x.counts;
  stage = x.stage;
}

-- step 4: if K is a power of two, M = K, s = v, all counts 0
abbrev pub mark_if : Bool → State → State
mark_if true x = record { k = x.k; v = x.v; mark = x.k; s = x.v; counts = zeros; stage = x.stage }
mark_if false x = x

unfoldable pub marked : State → State
marked x = mark_if (eqb (highest x.k) x.k) x

-- step 5: if no row fails, the stage is found
abbrev pub settle_by : Option ℕ → State → State
settle_by None x = with_stage Found x
settle_by (Some r) x = x

unfoldable pub settled : Function → State → State
settled f x = settle_by (failing f x.v) x

module _ (f : Function) where
  -- step 3: if v = s, the stage is looped, and steps 4 and 5 are left out
  abbrev pub close_if : Bool → State → State
  close_if true x = with_stage Looped x
  close_if false x = settled f (marked x)

  unfoldable pub closed : State → State
  closed x = close_if (same_vector x.v x.s) x

  -- the step by the lowest failing row
  abbrev pub step_by : Option ℕ → State → State
  step_by None x = x
  step_by (Some r) x = closed (corrected f r x)

  -- an ended job steps no more
  unfoldable pub step_in : Stage → State → State
  step_in Open x = step_by (failing f x.v) x
  step_in Found x = x
  step_in Looped x = x
  step_in Binate x = x

  unfoldable pub step : State → State
  step x = step_in x.stage x

  -- the machine after m steps
  unfoldable pub run : ℕ → State → State
  run zero x = x
  run (suc m) x = run m (step x)

-- whether a stage is an end
abbrev pub is_ended : Stage → Bool
is_ended Open = false
is_ended Found = true
is_ended Looped = true
is_ended Binate = true

-- the most corrections that one call may ask for
abbrev pub call_budget : ℕ
call_budget = 100000
