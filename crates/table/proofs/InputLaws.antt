-- Laws of inputs: the rows in which an input turns the value, and its kind. Assumes nothing.
use mathlib.Core.Path.{◌≡◌, refl, sym, ◌∙◌, ap}
use mathlib.Core.Bool.{Bool, true, false, not, beq, ◌&&◌, and-true, and-false}
use Prim.Native.Nat.{ℕ, ◌+◌, ◌^◌, ◌≤◌, ◌<◌}
use borrow.Author.Tests.{lt-ltb, le-ltb}
use Rattle.numbers.specs.Tests.{same_bool}
use Rattle.numbers.proofs.TestLaws.{same_bool_beq}
use Rattle.types.specs.declared.table.Table.{Table}
use Rattle.types.specs.declared.inputs.InputKind.TheVariants.{Idle}
use Rattle.table.specs.Table.{value, cared, function_of}
use Rattle.table.proofs.OnTables.{table_turns}
use Rattle.function.specs.Function.{level}
use Rattle.table.specs.Inputs.{kind_by, input_kind_at}
use Rattle.std.specs.Prelude.{is_some}
use Rattle.function.specs.Turns.{turns_at, first_turn}

-- a value that code read is on a side as the code's comparison says
pub same_bool_read : {v w flag : Bool} (side : Bool) → v ≡ w → beq v side ≡ flag → same_bool w side ≡ flag
same_bool_read {v} side e k = ap (λ (x : Bool). same_bool x side) (sym e) ∙ sym (same_bool_beq v side) ∙ k

-- ---- turns

module _ (t : Table) (to : Bool) (place : ℕ) where
  -- a row with the input does not turn
  pub turns_at_has : (r : ℕ) → level 2 r place ≡ 1 → turns_at (function_of t) to place r ≡ false
  turns_at_has r h = table_turns t to place r ∙ rw h (neither (cared t r) (cared t (r + 2 ^ place)))
    where
      neither : (a b : Bool) → (a && (b && false)) ≡ false
      neither true true = refl
      neither true false = refl
      neither false b = refl

  -- a row without it turns where its own value is not `to` and its partner's is, and both are cared for
  pub turns_at_lacks : (r : ℕ) → level 2 r place ≡ 0
      → turns_at (function_of t) to place r
      ≡ (not (same_bool (value t r) to) && (same_bool (value t (r + 2 ^ place)) to && (cared t r && cared t (r + 2 ^ place))))
  turns_at_lacks r h =
      table_turns t to place r
      ∙ rw h (by (cared t r) (cared t (r + 2 ^ place)) (value t r) to (same_bool (value t (r + 2 ^ place)) to))
    where
      by : (a b v to p : Bool) → (a && (b && (same_bool v (not to) && p))) ≡ (not (same_bool v to) && (p && (a && b)))
      by true true true true p = refl
      by true true true false p = sym (and-true p)
      by true true false true p = sym (and-true p)
      by true true false false p = refl
      by true false v to p = sym (ap (λ (x : Bool). not (same_bool v to) && x) (and-false p) ∙ and-false (not (same_bool v to)))
      by false b v to p = sym (ap (λ (x : Bool). not (same_bool v to) && x) (and-false p) ∙ and-false (not (same_bool v to)))

-- ---- kinds

-- the kind of an input of the table, by its two searches
pub input_kind_at_inside : (t : Table) (place : ℕ) → place < t.n → input_kind_at t place ≡ kind_by (is_some (first_turn (function_of t) true place)) (is_some (first_turn (function_of t) false place))
unfolding input_kind_at
input_kind_at_inside t place h = rw (lt-ltb place t.n h)

-- a place past the inputs of the table is idle
pub input_kind_at_past : (t : Table) (place : ℕ) → t.n ≤ place → input_kind_at t place ≡ Idle
unfolding input_kind_at
input_kind_at_past t place h = rw (le-ltb place t.n h)
