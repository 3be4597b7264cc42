-- `decided::decided_by` meets its contract: the fresh state of a table is sound. Assumes nothing.
use mathlib.Core.Path.{sym, ◌∙◌, ap, subst}
use native.Mathlib.Omega.{arith}
use Rattle.types.specs.declared.state.State.{State}
use Rattle.state.specs.Machine.{run, call_budget}
use Rattle.state.specs.Sound.{Sound}
use Rattle.state.proofs.MachineLaws.{fresh_k}
use Rattle.state.proofs.FreshSound.{fresh_sound}
use Rattle.table.specs.Table.{function_of}
use Rattle.stepping.proofs.decided.decided_by.Goals as goal

pub run-requires : goal.run-requires
run-requires c =
    let p = c.requires in
    let t = c.args.table in
    let is = c.fresh_state.ensures in (
      p.0,
      subst (Sound (function_of t)) (sym is) (fresh_sound (function_of t)),
      omega (arith, ap (λ (x : State). x.k) is, fresh_k (function_of t)),
      p.1,
    )

pub returns : goal.returns
returns c = c.run.ensures ∙ ap (run (function_of c.args.table) call_budget) c.fresh_state.ensures
