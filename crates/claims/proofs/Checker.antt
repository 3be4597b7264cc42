-- The checker's yes and what it stands for: where no rule is broken the call is its test, and the test is exact. Assumes nothing.
use Rattle.std.specs.Prelude.{Ok}
use mathlib.Core.Path.{◌≡◌, ◌∙◌, ap}
use mathlib.Core.Bool.{Bool, true}
use mathlib.Core.Logic.{◌↔◌}
use mathlib.Core.List.{List}
use Rattle.types.specs.declared.table.Table.{Table}
use Rattle.types.specs.declared.gate.Gate.{Gate}
use Rattle.types.specs.declared.witness.Witness.{Witness}
use Rattle.function.specs.Gate.{Realises, realises}
use Rattle.function.specs.Witness.{count_of, Balances, balances}
use Rattle.function.proofs.GateLaws.{realises_correct}
use Rattle.function.proofs.WitnessLaws.{balances_correct}
use Rattle.refusal.specs.Refusal.{Rule, checked, NoneBroken}
use Rattle.cell.specs.Calls.{check_gate_rules, check_gate, check_witness_rules, check_witness}
use Rattle.refusal.proofs.RefusalLaws.{answered_none_broken, none_broken_answered}
use Rattle.table.specs.Table.{function_of}

-- a yes is a test that holds
yes_holds : {P : Type 0} (rules : List Rule) (test : Bool) → NoneBroken rules → (test ≡ true ↔ P) → checked rules (Ok test) ≡ Ok true ↔ P
yes_holds rules test kept exact =
    (λ e. exact.0 (answered_none_broken rules test true e).1, λ p. none_broken_answered rules (Ok test) kept ∙ ap Ok (exact.1 p))

-- a gate is accepted exactly when it realises the table
pub gate_exact : (t : Table) (g : Gate) → NoneBroken (check_gate_rules t g) → check_gate t g ≡ Ok true ↔ Realises g.weights g.threshold (function_of t)
gate_exact t g kept = yes_holds (check_gate_rules t g) (realises g.weights g.threshold (function_of t)) kept (realises_correct g.weights g.threshold (function_of t))

-- a witness is accepted exactly when it balances
pub witness_exact : (t : Table) (w : Witness) → NoneBroken (check_witness_rules t w) → check_witness t w ≡ Ok true ↔ Balances (function_of t) (count_of w.counts)
witness_exact t w kept = yes_holds (check_witness_rules t w) (balances (function_of t) (count_of w.counts)) kept (balances_correct (function_of t) (count_of w.counts))

-- a witness that was accepted balances
pub accepted_balances : (t : Table) (w : Witness) → check_witness t w ≡ Ok true → Balances (function_of t) (count_of w.counts)
accepted_balances t w e =
    let count = count_of w.counts in
    (balances_correct (function_of t) count).0 (answered_none_broken (check_witness_rules t w) (balances (function_of t) count) true e).1
