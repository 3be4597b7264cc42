-- Laws of the rows in which an input turns the value: what the test says, and the lowest such row. Assumes nothing.
use mathlib.Core.Path.{◌≡◌, refl, sym, ◌∙◌}
use mathlib.Core.Bool.{Bool, true, false, not, ◌&&◌}
use mathlib.Core.Logic.{◌↔◌}
use Rattle.std.specs.Prelude.{Some, None}
use Prim.Native.Nat.{ℕ, ◌<◌}
use native.Mathlib.Omega.{arith}
use borrow.Author.Tests.{ltb-true, lt-ltb}
use lib.Dec.{ltb}
use Rattle.numbers.specs.Tests.{same_bool, first_from}
use Rattle.numbers.proofs.TestLaws.{and_left, and_right, and_both, same_bool_eq, eq_same_bool}
use Rattle.numbers.proofs.FirstLaws.{IsFirst, first_some, first_none}
use Rattle.function.specs.Function.{Function, levels, rows, raised}
use Rattle.function.specs.Turns.{turns_at, first_turn}
use Rattle.function.proofs.FunctionLaws.{raised_below}

-- row r has not the value `to`, and its partner, in which the place's input is raised, has it; both are cared for
pub record Turns (f : Function) (to : Bool) (place r : ℕ) : Type 0 where
  pub cared : f.cared r ≡ true
  pub partner_cared : f.cared (raised f place r) ≡ true
  pub below : levels f r place < f.top
  pub own : f.value r ≡ not to
  pub partner : f.value (raised f place r) ≡ to

module _ (f : Function) (to : Bool) (place : ℕ) where
  -- the test that an input turns the value in a row says so
  pub turns_at_correct : (r : ℕ) → turns_at f to place r ≡ true ↔ Turns f to place r
  unfolding turns_at
  turns_at_correct r = (turns, passes)
    where
      next : ℕ
      next = raised f place r

      below : Bool
      below = ltb (levels f r place) f.top

      differs : Bool
      differs = same_bool (f.value r) (not to)

      reaches : Bool
      reaches = same_bool (f.value next) to

      turns : turns_at f to place r ≡ true → Turns f to place r
      turns e =
          let both = and_right (f.cared r) (f.cared next && (below && differs && reaches)) e in
          let values = and_right (f.cared next) (below && differs && reaches) both in
          let first = and_left (below && differs) reaches values in
          record {
            cared = and_left (f.cared r) (f.cared next && (below && differs && reaches)) e;
            partner_cared = and_left (f.cared next) (below && differs && reaches) both;
            below = ltb-true _ _ (and_left below differs first);
            own = same_bool_eq _ _ (and_right below differs first);
            partner = same_bool_eq _ _ (and_right (below && differs) reaches values);
          }

      passes : Turns f to place r → turns_at f to place r ≡ true
      passes h =
          let values = and_both (and_both (lt-ltb _ _ h.below) (eq_same_bool _ _ h.own)) (eq_same_bool _ _ h.partner) in
          and_both h.cared (and_both h.partner_cared values)

  -- the first turn is a search through the rows
  pub first_turn_search : first_turn f to place ≡ first_from (turns_at f to place) (rows f) 0
  unfolding first_turn
  first_turn_search = refl

  -- a first turn that is found is the lowest row that turns
  pub first_turn_some : (r : ℕ) → first_turn f to place ≡ Some r → IsFirst (turns_at f to place) (rows f) 0 r
  first_turn_some r e = first_some (turns_at f to place) (rows f) 0 r (sym first_turn_search ∙ e)

  -- where none is found no row turns
  pub first_turn_none : first_turn f to place ≡ None → (r : ℕ) → r < rows f → turns_at f to place r ≡ false
  first_turn_none e r h = first_none (turns_at f to place) (rows f) 0 (sym first_turn_search ∙ e) r (omega arith) (omega arith)

  -- it turns the value
  pub first_turn_turns : (r : ℕ) → first_turn f to place ≡ Some r → Turns f to place r
  first_turn_turns r e = (turns_at_correct r).0 (first_turn_some r e).passes

  -- both its rows are rows of the function
  pub first_turn_rows : (r : ℕ) → place < f.places → first_turn f to place ≡ Some r → (r < rows f) × (raised f place r < rows f)
  first_turn_rows r h e =
      let row : r < rows f = omega (arith, (first_turn_some r e).inside) in
      (row, raised_below f.top f.places r place h (first_turn_turns r e).below row)
