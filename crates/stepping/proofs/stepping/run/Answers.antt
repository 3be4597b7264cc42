-- `stepping::run` meets its contract: what the fast form leaves, the plain one makes. Assumes nothing.
use mathlib.Core.Path.{sym, ◌∙◌, ap}
use Rattle.std.specs.Prelude.{◌≡◌, ℕ, ◌-◌, ◌≤◌}
use native.Mathlib.Omega.{arith}
use Rattle.types.specs.declared.table.Table.{Table}
use Rattle.types.specs.declared.state.State.{State}
use Rattle.state.specs.Machine.{run}
use Rattle.state.proofs.MachineLaws.{open_stage, ended_stage}
use Rattle.stepping.proofs.LeftLaws.{Left, left_none, left_ended, left_next, left_sound, left_capped}
use Rattle.table.specs.Table.{function_of}
use Rattle.stepping.proofs.stepping.run.Goals as goal
use Rattle.stepping.proofs.stepping.run.Goals.{then-way-eq0-via-then-way-eq0, then-way-eq0-via-else-way-eq0+then-is_ended}

-- what the fast form left: it began with the state's parts, and gave those of x
left_by : {t : Table} {start parts made x : State} {budget left : ℕ} → (left ≤ budget) × (made ≡ run (function_of t) (budget - left) parts)
    → parts ≡ start → x ≡ made → Left t start budget x left
left_by {t = t} {budget = budget} {left = left} fast taken put = record {
  within = fast.0;
  machine = put ∙ fast.1 ∙ ap (run (function_of t) (budget - left)) taken;
}

pub returns-then-way-eq0 : goal.returns-then-way-eq0
returns-then-way-eq0 c =
    let left = left_by c.fast_steps-way.ensures c.core_of.ensures c.state_of-next.ensures in
    elim c.then-way-eq0.branch [
      | then-way-eq0-via-then-way-eq0 w ↦ left_none left w.if-way-eq0.true
      | then-way-eq0-via-else-way-eq0+then-is_ended w ↦ left_ended left (ended_stage _ (sym w.is_ended.ensures ∙ w.if-is_ended.true))
    ]

pub plain_steps-requires : goal.plain_steps-requires
plain_steps-requires c =
    let p = c.requires in
    let left = left_by c.fast_steps-way.ensures c.core_of.ensures c.state_of-next.ensures in
    (p.0, left_sound left p.0 p.1 p.2, open_stage _ (sym c.is_ended.ensures ∙ c.if-is_ended.false), left_capped left p.0 p.1 p.2)

pub returns : goal.returns
returns c =
    let left = left_by c.fast_steps-way.ensures c.core_of.ensures c.state_of-next.ensures in
    left_none (left_next left (omega arith) c.plain_steps.ensures) (omega arith)
