-- `decided::decided_alone` meets its contract: the fresh state of a table is sound, and one that has ended stays as it is. Assumes
-- nothing.
use Rattle.std.specs.Prelude.{◌≡◌}
use mathlib.Core.Path.{sym, ◌∙◌, ap, subst}
use native.Mathlib.Omega.{arith}
use Rattle.types.specs.declared.state.State.{State}
use Rattle.state.specs.Machine.{run, fresh, call_budget}
use Rattle.state.specs.Sound.{Sound}
use Rattle.state.proofs.MachineLaws.{fresh_k, ended_stage, run_ended}
use Rattle.state.proofs.FreshSound.{fresh_sound}
use Rattle.table.specs.Table.{function_of}
use Rattle.stepping.proofs.decided.decided_alone.Goals as goal
use Rattle.stepping.proofs.decided.decided_alone.Goals.{After-fresh_state-state}

-- the state that the steps start from is the fresh one
fresh_is : (c : After-fresh_state-state) → c.fresh_state-state.result ≡ fresh (function_of c.args.table)
fresh_is c = c.fresh_state-state.ensures

pub returns-then-is_ended : goal.returns-then-is_ended
returns-then-is_ended c =
    let f = function_of c.args.table in
    sym (run_ended f call_budget _ (ended_stage _ (sym c.is_ended.ensures ∙ c.if-is_ended.true))) ∙ ap (run f call_budget) (fresh_is (goal.at.returns-then-is_ended c).After-fresh_state-state)

pub run-requires : goal.run-requires
run-requires c =
    let f = function_of c.args.table in (
      c.requires,
      subst (Sound f) (sym (fresh_is (goal.at.run-requires c).After-fresh_state-state)) (fresh_sound f),
      omega (arith, ap (λ (x : State). x.k) (fresh_is (goal.at.run-requires c).After-fresh_state-state), fresh_k f),
      c.step_table-steps.ensures,
    )

pub returns : goal.returns
returns c = c.run.ensures ∙ ap (run (function_of c.args.table) call_budget) (fresh_is (goal.at.returns c).After-fresh_state-state)
