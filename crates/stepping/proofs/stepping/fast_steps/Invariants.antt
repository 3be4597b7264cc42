-- `stepping::fast_steps` meets its contract. The loop's invariant: the state is the machine's but for the steps that are left (`Left` of
-- LeftLaws). The measure is what is left. Assumes nothing.
use Rattle.machine.specs.Core.{state_of}
use Rattle.stepping.proofs.LeftLaws.{Left}
use Rattle.stepping.proofs.stepping.fast_steps.Given as goal

abbrev pub invariant-loop-table : goal.invariant-loop-table
invariant-loop-table l = Left l.table (state_of l.initial.core l.initial.counts) l.budget (state_of l.core l.counts) l.left

abbrev pub decreases-loop-table : goal.decreases-loop-table
decreases-loop-table l = l.left
