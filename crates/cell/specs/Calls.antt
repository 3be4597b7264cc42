-- The calls on one cell: for each its rules in their order, and its value where none is broken (document 01, "Table, gate, witness",
-- "Who causes which number" and "Kinds, Chow, report"; document 02, §3). Definitions only. Assumes nothing.
use Rattle.types.specs.declared.refusal.Refusal.TheVariants as Refusal'
use Rattle.std.specs.Prelude.{Bool, not, List, [], ◌∷◌, ℕ, ltb, eqb, ℤ, Ok}
use Rattle.types.specs.declared.table.Table.{Table}
use Rattle.types.specs.declared.gate.Gate.{Gate}
use Rattle.types.specs.declared.witness.Witness.{Witness}
use Rattle.types.specs.declared.inputs.InputKind.{InputKind}
use Rattle.table.specs.Table.{rows_of, value, function_of}
use Rattle.table.specs.Gate.{beyond}
use Rattle.function.specs.Gate.{gate_true, realises}
use Rattle.table.specs.Witness.{unfit}
use Rattle.function.specs.Witness.{count_of, balances}
use Rattle.table.specs.Inputs.{kinds_of}
use Rattle.table.specs.Chow.{chow_of}
use Rattle.refusal.specs.Refusal.{Rule, rule, Answered, checked}
use Rattle.refusal.specs.TableRules.{too_many_inputs, table_rules}
use Rattle.function.specs.Function.{level}

-- 2: a gate's n not the table's
abbrev pub other_inputs : Table → Gate → Rule
other_inputs t g = rule Refusal'.Inputs (not (eqb g.n t.n))

-- 7: a weight or T beyond its range, or a place past n not 0
abbrev pub gate_range : Gate → Rule
gate_range g = rule Refusal'.Gate (beyond g)

-- 8: all counts 0, a count too large, or a row past the table not 0
abbrev pub witness_range : Table → Witness → Rule
witness_range t w = rule Refusal'.RowList (unfit t w)

-- 14: a row at or above 2^n
abbrev pub past_rows : ℕ → ℕ → Rule
past_rows n r = rule Refusal'.Row (not (ltb r (rows_of n)))

-- the rules of a table with a gate, before the others of a call: 2, 3, 16, 7. The two reasons for 2 come before 3, in either order
abbrev pub gate_rules : Table → Gate → List Rule → List Rule
gate_rules t g others = other_inputs t g ∷ table_rules t (gate_range g ∷ others)

-- the test of a table with a gate alone
abbrev pub gate_checked : Table → Gate → Answered (Unit {0})
gate_checked t g = checked (gate_rules t g []) (Ok tt)

-- the rules of a table with a witness, before the others of a call: 2, 3, 16, 8
abbrev pub witness_rules : Table → Witness → List Rule → List Rule
witness_rules t w others = table_rules t (witness_range t w ∷ others)

-- the test of a table with a witness alone
abbrev pub witness_checked : Table → Witness → Answered (Unit {0})
witness_checked t w = checked (witness_rules t w []) (Ok tt)

-- the value of a table on a row: 2, 3, 16, 14
abbrev pub table_value_rules : Table → ℕ → List Rule
table_value_rules t r = table_rules t (past_rows t.n r ∷ [])

abbrev pub table_value : Table → ℕ → Answered Bool
table_value t r = checked (table_value_rules t r) (Ok (value t r))

-- the value of a gate on a row: 2, 7, 14
abbrev pub gate_value_rules : Gate → ℕ → List Rule
gate_value_rules g r = too_many_inputs g.n ∷ gate_range g ∷ past_rows g.n r ∷ []

abbrev pub gate_value : Gate → ℕ → Answered Bool
gate_value g r = checked (gate_value_rules g r) (Ok (gate_true g.weights g.threshold (level 2 r)))

-- the checker on a table with a gate: 2, 3, 16, 7
abbrev pub check_gate_rules : Table → Gate → List Rule
check_gate_rules t g = gate_rules t g []

abbrev pub check_gate : Table → Gate → Answered Bool
check_gate t g = checked (check_gate_rules t g) (Ok (realises g.weights g.threshold (function_of t)))

-- the checker on a table with a witness: 2, 3, 16, 8
abbrev pub check_witness_rules : Table → Witness → List Rule
check_witness_rules t w = witness_rules t w []

abbrev pub check_witness : Table → Witness → Answered Bool
check_witness t w = checked (check_witness_rules t w) (Ok (balances (function_of t) (count_of w.counts)))

-- the kinds of all eight places: 2, 3, 16
abbrev pub input_kinds : Table → Answered (List InputKind)
input_kinds t = checked (table_rules t []) (Ok (kinds_of t))

-- the q of all eight places, by the values: 2, 3, 16
abbrev pub chow_parameters : Table → Answered (List ℤ)
chow_parameters t = checked (table_rules t []) (Ok (chow_of t))
