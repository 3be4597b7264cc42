-- Gates: the rule as a test of the weighted sum against T, and the test `realises` with its meaning, both directions. Assumes nothing.
use mathlib.Core.Path.{◌≡◌}
use mathlib.Core.Bool.{Bool, true, not, ◌||◌}
use mathlib.Core.Logic.{◌↔◌}
use mathlib.Core.List.{List}
use Prim.Native.Nat.{ℕ}
use lib.IntN.{ℤ}
use lib.Signed.{le_z}
use Rattle.numbers.specs.Sum.{weighted_sum}
use Rattle.numbers.specs.Tests.{same_bool}
use Rattle.numbers.proofs.Int.{le_z_sub}
use Rattle.numbers.proofs.TestLaws.{where_passed, same_bool_eq, eq_same_bool, all_below_at, all_below_from}
use Rattle.function.specs.Function.{Function, levels, rows}
use Rattle.function.specs.Gate.{distance, gate_true, Realises, realises}

-- a gate is true on a row exactly if the row's sum is at least T
pub gate_true_sum : (ws : List ℤ) (th : ℤ) (level : ℕ → ℕ) → gate_true ws th level ≡ le_z th (weighted_sum ws level)
unfolding distance
gate_true_sum ws th level = le_z_sub (weighted_sum ws level) th

-- the test that a gate realises a function says so
pub realises_correct : (ws : List ℤ) (th : ℤ) (f : Function) → realises ws th f ≡ true ↔ Realises ws th f
unfolding realises
realises_correct ws th f = (
  λ e r h care. same_bool_eq _ _ ((asked r).0 (all_below_at (rows f) tested e r h) care),
  λ g. all_below_from (rows f) tested (λ r h. (asked r).1 (λ care. eq_same_bool _ _ (g r h care))),
)
  where
    agrees : ℕ → Bool
    agrees r = same_bool (gate_true ws th (levels f r)) (f.value r)

    tested : ℕ → Bool
    tested r = not (f.cared r) || agrees r

    asked : (r : ℕ) → tested r ≡ true ↔ (f.cared r ≡ true → agrees r ≡ true)
    asked r = where_passed (f.cared r) (agrees r) (λ e. e, λ e. e)
