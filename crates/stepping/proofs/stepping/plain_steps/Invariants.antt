-- `stepping::plain_steps` meets its contract. The loop's invariant: its state stands where the machine does after so many steps (`Unsettled` of
-- UnsettledLaws), and `next` is what the search by its vector found. Assumes nothing.
use Rattle.std.specs.Prelude.{Option, ◌≡◌, ℕ, ◌≤◌}
use Rattle.table.specs.Table.{function_of}
use Rattle.function.specs.Failing.{failing}
use Rattle.types.specs.declared.table.Table.{Table}
use Rattle.types.specs.declared.state.State.{State}
use Rattle.chunks.proofs.UnsettledLaws.{Unsettled}
use Rattle.stepping.proofs.stepping.plain_steps.Given as goal

-- the invariant: `made` of the budget's steps are made from `start`
pub record Turned (t : Table) (start : State) (budget made : ℕ) (x : State) (next : Option ℕ) : Type 0 where
  pub unsettled : Unsettled t start made x
  pub search : next ≡ failing (function_of t) x.v
  pub within : made ≤ budget

abbrev pub invariant-loop : goal.invariant-loop
invariant-loop l = Turned l.table l.initial.j l.budget l.counter l.j l.next
