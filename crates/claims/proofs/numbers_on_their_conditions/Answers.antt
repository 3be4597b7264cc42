-- `claims::numbers_on_their_conditions`: the law of rules, at each call's list. Assumes nothing.
use mathlib.Core.List.{[]}
use Rattle.table.specs.Table.{value, function_of}
use Rattle.function.specs.Gate.{gate_true, realises}
use Rattle.function.specs.Witness.{count_of, balances}
use Rattle.table.specs.Inputs.{kinds_of}
use Rattle.table.specs.Chow.{chow_of}
use Rattle.cell.specs.Calls.{table_value_rules, gate_value_rules, check_gate_rules, check_witness_rules}
use Rattle.refusal.specs.TableRules.{table_rules}
use Rattle.claims.proofs.Rules.{by_rules}
use Rattle.function.specs.Function.{level}
use Rattle.claims.proofs.numbers_on_their_conditions.Goals as goal

pub returns : goal.returns
returns c =
    record {
      table_value_lem = λ t r. by_rules (table_value_rules t r) (value t r);
      gate_value_lem = λ g r. by_rules (gate_value_rules g r) (gate_true g.weights g.threshold (level 2 r));
      check_gate_lem = λ t g. by_rules (check_gate_rules t g) (realises g.weights g.threshold (function_of t));
      check_witness_lem = λ t w. by_rules (check_witness_rules t w) (balances (function_of t) (count_of w.counts));
      input_kinds_lem = λ t. by_rules (table_rules t []) (kinds_of t);
      chow_parameters_lem = λ t. by_rules (table_rules t []) (chow_of t);
    }
