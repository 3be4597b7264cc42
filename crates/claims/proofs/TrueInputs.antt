-- The weighted sum of a table's row is the sum of the weights of its true inputs: a level is 0 or 1. Assumes nothing.
use mathlib.Core.Path.{◌≡◌, refl, ◌∙◌, ap, ap₂}
use mathlib.Core.Bool.{cond}
use mathlib.Core.List.{List, [], ◌∷◌}
use Prim.Native.Nat.{ℕ, zero, suc, ◌<◌}
use native.Mathlib.Omega.{arith}
use lib.Dec.{eqb}
use lib.Signed.{le_z}
use lib.IntN.{ℤ, pos, ◌+ℤ◌, ◌-ℤ◌, ◌*ℤ◌, zero-*ℤ}
use Rattle.numbers.specs.Sum.{weighted_sum}
use Rattle.numbers.proofs.Ring.{*ℤ_idl}
use Rattle.function.specs.Function.{level}
use Rattle.function.specs.Gate.{distance, gate_true}
use Rattle.function.proofs.GateLaws.{gate_true_sum}
use Rattle.table.proofs.TableLaws.{level_lt}
use Rattle.claims.specs.Tables.{true_in, true_sum}

-- over levels of 0 and 1, the weighted sum takes the weights at level 1
true_sum_lem : (ws : List ℤ) (l : ℕ → ℕ) → ((place : ℕ) → l place < 2) → weighted_sum ws l ≡ true_sum ws (λ place. eqb (l place) 1)
unfolding weighted_sum true_sum
true_sum_lem [] l h = refl
true_sum_lem (w ∷ ws) l h = ap₂ ◌+ℤ◌ (by (l 0) (h 0)) (true_sum_lem ws (λ place. l (suc place)) (λ place. h (suc place)))
  where
    by : (x : ℕ) → x < 2 → pos x *ℤ w ≡ cond (eqb x 1) w (pos 0)
    by zero k = zero-*ℤ w
    by (suc zero) k = *ℤ_idl w
    by (suc (suc x)) k = absurd (omega arith)

-- the distance of a row is the sum of the weights of its true inputs, less T
pub table_distance : (ws : List ℤ) (th : ℤ) (r : ℕ) → distance ws th (level 2 r) ≡ true_sum ws (true_in r) -ℤ th
unfolding distance
table_distance ws th r = ap (λ (x : ℤ). x -ℤ th) (true_sum_lem ws (level 2 r) (level_lt r))

-- and the gate is true where that sum is at least T
pub table_gate_true : (ws : List ℤ) (th : ℤ) (r : ℕ) → gate_true ws th (level 2 r) ≡ le_z th (true_sum ws (true_in r))
table_gate_true ws th r = gate_true_sum ws th (level 2 r) ∙ ap (le_z th) (true_sum_lem ws (level 2 r) (level_lt r))
