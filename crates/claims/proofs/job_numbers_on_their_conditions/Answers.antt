-- `claims::job_numbers_on_their_conditions`: the law of rules, at each call's list. Assumes nothing.
use mathlib.Core.List.{[], ◌∷◌}
use Rattle.function.specs.Failing.{fails}
use Rattle.cell.specs.Calls.{past_rows}
use Rattle.refusal.specs.TableRules.{table_rules}
use Rattle.job.specs.Machine.{fresh, decided}
use Rattle.job.specs.Calls.{job_rules}
use Rattle.view.specs.Calls.{shown_in}
use Rattle.claims.proofs.Rules.{by_rules}
use Rattle.claims.proofs.CarryOn.{carry_on_open, carry_on_ended}
use Rattle.table.specs.Table.{function_of}
use Rattle.claims.proofs.job_numbers_on_their_conditions.Goals as goal

pub returns : goal.returns
returns c =
    record {
      fresh_job_lem = λ t. by_rules (table_rules t []) (fresh t);
      decided = λ t. by_rules (table_rules t []) (decided t);
      carry_on_lem = carry_on_open;
      carry_on_ended = carry_on_ended;
      row_fails_lem = λ j r. by_rules (job_rules j (past_rows j.table.n r ∷ [])) (fails (function_of j.table) j.state.v r);
      show_job_lem = λ j. by_rules (job_rules j []) (shown_in j.state.stage j);
    }
