-- The rows of a table that are not cared for are false; and its fresh job, by those that are: with one it is open, unless an input is binate, and
-- with none it is found. Assumes nothing.
use mathlib.Core.Path.{◌≡◌, refl, sym, ◌∙◌, ap}
use mathlib.Core.Bool.{Bool, true, false, not, ◌&&◌, ◌||◌}
use Rattle.std.specs.Prelude.{Option, Some, None}
use Prim.Native.Nat.{ℕ, ◌<◌}
use native.Mathlib.Omega.{arith}
use Rattle.numbers.specs.Tests.{first_from}
use Rattle.std.specs.Prelude.{is_some}
use Rattle.numbers.proofs.TestLaws.{no_true, all_below_at}
use Rattle.numbers.proofs.FirstLaws.{first_none, first_fails}
use Rattle.types.specs.declared.table.Table.{Table}
use Rattle.types.specs.declared.stage.Stage.TheVariants.{Open, Found}
use Rattle.function.specs.Turns.{turns_at, first_turn}
use Rattle.function.specs.Binate.{binate_at, binate_place}
use Rattle.function.specs.Witness.{zeros}
use Rattle.table.specs.Table.{rows, value, cared, function_of, stray_value}
use Rattle.table.proofs.OnTables.{table_turns, zero_failing}
use Rattle.state.proofs.MachineLaws.{fresh_open, fresh_found}
use Rattle.state.specs.Machine as state

-- a row that is not cared for is false, where no value is astray
pub free_row_false : (t : Table) → stray_value t ≡ false → (r : ℕ) → r < rows t → cared t r ≡ false → value t r ≡ false
unfolding stray_value
free_row_false t e r h free = by (value t r) (cared t r) free (all_below_at (rows t) (λ q. not (value t q) || cared t q) (not_not _ e) r h)
  where
    not_not : (b : Bool) → not b ≡ false → b ≡ true
    not_not true k = refl
    not_not false k = sym k

    by : (v c : Bool) → c ≡ false → (not v || c) ≡ true → v ≡ false
    by true c free kept = absurd (no_true (sym free ∙ kept))
    by false c free kept = refl

module _ (t : Table) where
  -- a row that is cared for fails at the vector 0, so that the job is open
  pub unate_open : binate_place (function_of t) ≡ None → (r : ℕ) → r < rows t → cared t r ≡ true → state.fresh (function_of t) ≡ state.start_state zeros Open
  unate_open unate r h care = by (first_from (cared t) (rows t) 0) refl
    where
      by : (first : Option ℕ) → first_from (cared t) (rows t) 0 ≡ first → state.fresh (function_of t) ≡ state.start_state zeros Open
      by None e = absurd (no_true (sym (first_none (cared t) (rows t) 0 e r (omega arith) (omega arith)) ∙ care))
      by (Some q) e = fresh_open (function_of t) q unate (zero_failing t ∙ e)

  module _ (free : (r : ℕ) → r < rows t → cared t r ≡ false) where
    -- no row turns, so no input is binate
    no_turn : (to : Bool) (place : ℕ) → first_turn (function_of t) to place ≡ None
    unfolding first_turn
    no_turn to place =
        first_fails (turns_at (function_of t) to place) (rows t) 0
        (λ r l k. table_turns t to place r ∙ rw (free r (omega arith)))

    no_binate : binate_place (function_of t) ≡ None
    unfolding binate_place binate_at
    no_binate = first_fails (binate_at (function_of t)) t.n 0 (λ place l k. ap (λ (o : Option ℕ). is_some o && is_some (first_turn (function_of t) false place)) (no_turn true place))

    -- and none fails, so that the job is found
    pub free_found : state.fresh (function_of t) ≡ state.start_state zeros Found
    free_found =
        fresh_found (function_of t) no_binate (zero_failing t ∙ first_fails (cared t) (rows t) 0 (λ r l k. free r (omega arith)))
