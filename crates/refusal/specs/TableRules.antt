-- The rules of a table, which every call that takes one begins with, and the test of a table alone (document 01, "Table, gate, witness" and
-- "Who causes which number"; document 02, §3). Definitions only. Assumes nothing.
use Rattle.types.specs.declared.refusal.Refusal.TheVariants as Refusal'
use Rattle.std.specs.Prelude.{◌||◌, List, [], ◌∷◌, ℕ, ltb, Ok}
use Rattle.types.specs.declared.table.Table.{Table}
use Rattle.table.specs.Table.{input_limit, spare_set, stray_value}
use Rattle.refusal.specs.Refusal.{Rule, rule, Answered, checked}

-- 2: n above 8
abbrev pub too_many_inputs : ℕ → Rule
too_many_inputs n = rule Refusal'.Inputs (ltb input_limit n)

-- 3: a spare bit of the values or of the care bits set, or a byte past their length not 0
abbrev pub spare_bits : Table → Rule
spare_bits t = rule Refusal'.SpareBit (spare_set t.n t.bytes || spare_set t.n t.cares)

-- 16 (document 02, §3): a value bit set on a row that is not cared for
abbrev pub stray_values : Table → Rule
stray_values t = rule Refusal'.Care (stray_value t)

-- the rules of a table, which stand before the other rules of every call that takes one: 2, 3, 16
abbrev pub table_rules : Table → List Rule → List Rule
table_rules t others = too_many_inputs t.n ∷ spare_bits t ∷ stray_values t ∷ others

-- the test of a table alone
abbrev pub table_checked : Table → Answered (Unit {0})
table_checked t = checked (table_rules t []) (Ok tt)
