-- What is claimed, in statements alone. Each cites the definitions that the contracts cite. Assumes nothing.
use Rattle.std.specs.Prelude.{◌≡◌, true, ◌↔◌, List, [], ℕ, ℤ, Ok, Err}
use Rattle.types.specs.declared.table.Table.{Table}
use Rattle.types.specs.declared.gate.Gate.{Gate}
use Rattle.types.specs.declared.witness.Witness.{Witness}
use Rattle.table.specs.Table.{value, function_of}
use Rattle.function.specs.Gate.{gate_true, Realises, realises}
use Rattle.function.specs.Witness.{count_of, Balances, balances}
use Rattle.table.specs.Inputs.{kinds_of}
use Rattle.table.specs.Chow.{chow_of}
use Rattle.types.specs.declared.refusal.Refusal.{Refusal}
use Rattle.refusal.specs.Refusal.{Rule, Answered, FirstBroken, NoneBroken}
use Rattle.cell.specs.Calls.{table_value_rules, table_value, gate_value_rules, gate_value, check_gate_rules, check_gate, check_witness_rules, check_witness, input_kinds, chow_parameters}
use Rattle.refusal.specs.TableRules.{table_rules}
use Rattle.function.specs.Function.{level}

-- a call goes by its rules: it gives a refusal exactly where that is the first broken rule's, and a value exactly where no
-- rule is broken and the value is the call's
pub record ByRules {A : Type 0} (rules : List Rule) (a : A) (call : Answered A) : Type 0 where
  pub number : (e : Refusal) → call ≡ Err e ↔ FirstBroken e rules
  pub value : (c : A) → call ≡ Ok c ↔ (NoneBroken rules × (a ≡ c))

-- Demand 1, "a refusal comes only on the condition written there": every call of the cell goes by the rules of its order
pub record NumbersOnTheirConditions : Type 0 where
  pub table_value_lem : (t : Table) (r : ℕ) → ByRules (table_value_rules t r) (value t r) (table_value t r)
  pub gate_value_lem : (g : Gate) (r : ℕ) → ByRules (gate_value_rules g r) (gate_true g.weights g.threshold (level 2 r)) (gate_value g r)
  pub check_gate_lem : (t : Table) (g : Gate) → ByRules (check_gate_rules t g) (realises g.weights g.threshold (function_of t)) (check_gate t g)
  pub check_witness_lem : (t : Table) (w : Witness) → ByRules (check_witness_rules t w) (balances (function_of t) (count_of w.counts)) (check_witness t w)
  pub input_kinds_lem : (t : Table) → ByRules (table_rules t []) (kinds_of t) (input_kinds t)
  pub chow_parameters_lem : (t : Table) → ByRules (table_rules t []) (chow_of t) (chow_parameters t)

-- Demand 2, "within document 01's ranges the checker accepts a gate exactly when it realises the table, and a witness exactly when it
-- balances": where no rule is broken, the answer is yes exactly then
pub record CheckerIsExact : Type 0 where
  pub gate : (t : Table) (g : Gate) → NoneBroken (check_gate_rules t g) → check_gate t g ≡ Ok true ↔ Realises g.weights g.threshold (function_of t)
  pub witness : (t : Table) (w : Witness) → NoneBroken (check_witness_rules t w) → check_witness t w ≡ Ok true ↔ Balances (function_of t) (count_of w.counts)

-- Demand 2: no integer weights and threshold, of any number and any size, realise a table with a balanced witness
unfoldable pub WitnessExcludes : Type 0
WitnessExcludes = (t : Table) (count : ℕ → ℕ) → Balances (function_of t) count → (ws : List ℤ) (th : ℤ) → ¬ Realises ws th (function_of t)

-- Demand 2: a yes to a witness, from anyone, is enough
unfoldable pub CheckedWitnessExcludes : Type 0
CheckedWitnessExcludes = (t : Table) (w : Witness) → check_witness t w ≡ Ok true → (ws : List ℤ) (th : ℤ) → ¬ Realises ws th (function_of t)
