-- Laws of the rows of a table's binate input: a pair's rows are below 256, and a search without an answer leaves the counts. Assumes nothing.
use mathlib.Core.Path.{◌≡◌, refl}
use mathlib.Core.Bool.{Bool}
use mathlib.Core.List.{List}
use Rattle.std.specs.Prelude.{Option, Some, None}
use Prim.Native.Nat.{ℕ, ◌+◌, ◌^◌, ◌≤◌, ◌<◌}
use native.Mathlib.Omega.{arith}
use Rattle.types.specs.declared.table.Table.{Table}
use Rattle.function.specs.Turns.{first_turn}
use Rattle.table.proofs.TableLaws.{rows_le}
use Rattle.function.proofs.TurnLaws.{first_turn_rows}
use Rattle.function.specs.Binate.{pair_more}
use Rattle.table.specs.Table.{function_of}

-- a row in which an input of the table turns the value has its partner below 256
pub first_turn_partner : (t : Table) (to : Bool) (place r : ℕ) → t.n ≤ 8 → place < t.n → first_turn (function_of t) to place ≡ Some r → r + 2 ^ place < 256
first_turn_partner t to place r h k e = omega (arith, rows_le h, (first_turn_rows (function_of t) to place r k e).1)

-- where a search has found nothing, no count changes
pub pair_more_nowhere : (base place : ℕ) (o : Option ℕ) (counts : List ℕ) → o ≡ None → pair_more base place o counts ≡ counts
pair_more_nowhere base place None counts e = refl
pair_more_nowhere base place (Some r) counts e = let z : ◌≡◌ {A = ℕ} 0 1 = cc in absurd (omega arith)
