-- What the test of a table (`table_status`) says of every call's rules, which begin with the table's: callers cite these laws and not
-- the rules' text. Assumes nothing.
use Rattle.std.specs.Prelude.{Ok, Err}
use mathlib.Core.Path.{◌≡◌, ◌∙◌, ap}
use mathlib.Core.Bool.{Bool, true, false, not, ◌||◌, or-true}
use mathlib.Core.List.{List, [], ◌∷◌}
use Rattle.types.specs.declared.refusal.Refusal.{Refusal}
use Prim.Native.Nat.{ℕ, ◌≤◌}
use borrow.Author.Tests.{ltb-false, le-ltb}
use Rattle.numbers.proofs.TestLaws.{or_false_left, or_false_right, or_neither, all_below_from}
use Rattle.refusal.proofs.StatusLaws.{rules_refused, rules_passed}
use Rattle.types.specs.declared.table.Table.{Table}
use Rattle.table.specs.Table.{input_limit, rows, value, whole_table, is_whole, spare_set, stray_value}
use Rattle.table.proofs.RowLaws.{rows_clear}
use Rattle.table.proofs.CareLaws.{kept_at, whole_at, whole_table_lem}
use Rattle.refusal.specs.TableRules.{too_many_inputs, table_rules, table_checked}
use Rattle.refusal.specs.Refusal.{Rule, Answered, checked, NoneBroken, none, also}

narrow : (n : ℕ) {rs : List Rule} → NoneBroken (too_many_inputs n ∷ rs) → n ≤ 8
narrow n (also b f) = ltb-false input_limit n b

-- a table whose rules are kept, before any others, has at most eight inputs
pub kept_inputs : (t : Table) {others : List Rule} → NoneBroken (table_rules t others) → t.n ≤ 8
kept_inputs t kept = narrow t.n kept

-- neither its values nor its care bits have a spare bit, and no row that is not cared for has a value bit
pub kept_values : (t : Table) {others : List Rule} → NoneBroken (table_rules t others) → spare_set t.n t.bytes ≡ false
kept_values t (also few (also clear rest)) = or_false_left _ _ clear

pub kept_cares : (t : Table) {others : List Rule} → NoneBroken (table_rules t others) → spare_set t.n t.cares ≡ false
kept_cares t (also few (also clear rest)) = or_false_right (spare_set t.n t.bytes) _ clear

pub kept_stray : (t : Table) {others : List Rule} → NoneBroken (table_rules t others) → stray_value t ≡ false
kept_stray t (also few (also clear (also kept rest))) = kept

-- a table of which all this holds keeps its rules
pub table_keeps : (t : Table) → t.n ≤ 8 → spare_set t.n t.bytes ≡ false → spare_set t.n t.cares ≡ false → stray_value t ≡ false
    → NoneBroken (table_rules t [])
table_keeps t few values cares kept = also (le-ltb input_limit t.n few) (also (or_neither values cares) (also kept none))

-- in a table with every row cared for, no value is on a row that is not
pub whole_stray : (t : Table) → is_whole t ≡ true → stray_value t ≡ false
unfolding stray_value
whole_stray t whole =
    ap not
    (all_below_from (rows t) (kept_at t)
    (λ r h. ap (λ (b : Bool). not (value t r) || b) (whole_at t whole r h) ∙ or-true (not (value t r))))

-- so it keeps its rules where its values have no spare bit
pub whole_keeps : (n : ℕ) (bits : List ℕ) → n ≤ 8 → spare_set n bits ≡ false → NoneBroken (table_rules (whole_table n bits) [])
whole_keeps n bits few values =
    table_keeps (whole_table n bits) few values (rows_clear n (λ r. true) few) (whole_stray (whole_table n bits) (whole_table_lem n bits few))

-- the table's rules and the others of a call, apart and together
pub table_kept : (t : Table) {others : List Rule} → NoneBroken (table_rules t others) → NoneBroken (table_rules t [])
table_kept t (also few (also clear (also kept rest))) = also few (also clear (also kept none))

pub others_kept : (t : Table) {others : List Rule} → NoneBroken (table_rules t others) → NoneBroken others
others_kept t (also few (also clear (also kept rest))) = rest

pub all_kept : (t : Table) {others : List Rule} → NoneBroken (table_rules t []) → NoneBroken others → NoneBroken (table_rules t others)
all_kept t (also few (also clear (also kept end))) rest = also few (also clear (also kept rest))

-- s is what `table_status` returned for the table t
module _ {s : Answered (Unit {0})} (t : Table) (says : s ≡ table_checked t) where
  -- a table that is refused is refused with its refusal by every call that begins with the table's rules
  pub table_refused : {A : Type 0} (others : List Rule) (next : Answered A) {n : Refusal} → s ≡ Err n → Err n ≡ checked (table_rules t others) next
  table_refused others next e = rules_refused (table_rules t []) says (checked others next) e

  -- a table that keeps its format leaves the call to its other rules
  pub table_passed : {A : Type 0} (others : List Rule) (next : Answered A) → s ≡ Ok tt → checked others next ≡ checked (table_rules t others) next
  table_passed others next e = rules_passed (table_rules t []) says (checked others next) e
