-- Laws of failing rows: the test of a false row, and the lowest failing row. Assumes nothing.
use mathlib.Core.Path.{◌≡◌, refl}
use mathlib.Core.Bool.{Bool, true, false}
use Rattle.std.specs.Prelude.{Some, None}
use Prim.Native.Nat.{ℕ, ◌<◌}
use native.Mathlib.Omega.{arith}
use lib.IntN.{ℤ, pos, negsuc, neg_ℤ}
use lib.Signed.{lt_z}
use Rattle.numbers.proofs.Int.{integers, parts_neg}
use Rattle.numbers.proofs.TestLaws.{and_left, and_right}
use Rattle.numbers.proofs.FirstLaws.{IsFirst, first_some, first_none, first_at, first_fails}
use Rattle.types.specs.declared.vector.Vector.{Vector}
use Rattle.function.specs.Function.{Function, levels, rows}
use Rattle.function.specs.Gate.{distance}
use Rattle.function.specs.Failing.{margin, fails, failing}

-- −1 is below d exactly if −d is below 1
pub above_below : (d : ℤ) → lt_z (negsuc 0) d ≡ lt_z (neg_ℤ d) (pos 1)
above_below d = by (lt_z (neg_ℤ d) (pos 1)) refl
  where
    by : (t : Bool) → lt_z (neg_ℤ d) (pos 1) ≡ t → lt_z (negsuc 0) d ≡ t
    by true e = omega (integers, parts_neg d)
    by false e = omega (integers, parts_neg d)

module _ (f : Function) (v : Vector) where
  -- a row that fails is cared for
  pub fails_cared : (r : ℕ) → fails f v r ≡ true → f.cared r ≡ true
  unfolding fails
  fails_cared r e = and_left (f.cared r) _ e

  -- its margin is below 1
  pub fails_margin : (r : ℕ) → fails f v r ≡ true → lt_z (margin (f.value r) (distance v.a v.b (levels f r))) (pos 1) ≡ true
  unfolding fails
  fails_margin r e = and_right (f.cared r) _ e

  -- a row that is cared for and does not fail has a margin of at least 1
  pub passes_margin : (r : ℕ) → f.cared r ≡ true → fails f v r ≡ false → lt_z (margin (f.value r) (distance v.a v.b (levels f r))) (pos 1) ≡ false
  unfolding fails
  passes_margin r care e = rw care at e

  -- what is found is a row that fails, and none below it does
  pub failing_some : (r : ℕ) → failing f v ≡ Some r → IsFirst (fails f v) (rows f) 0 r
  unfolding failing
  failing_some r e = first_some (fails f v) (rows f) 0 r e

  -- such a row is what is found
  pub failing_at : (r : ℕ) → IsFirst (fails f v) (rows f) 0 r → failing f v ≡ Some r
  unfolding failing
  failing_at r first = first_at (fails f v) (rows f) 0 r first

  -- where nothing is found, no row fails
  pub failing_none : failing f v ≡ None → (r : ℕ) → r < rows f → fails f v r ≡ false
  unfolding failing
  failing_none e r h = first_none (fails f v) (rows f) 0 e r (omega arith) (omega arith)

  -- where no row fails, nothing is found
  pub none_failing : ((r : ℕ) → r < rows f → fails f v r ≡ false) → failing f v ≡ None
  unfolding failing
  none_failing h = first_fails (fails f v) (rows f) 0 (λ r l k. h r (omega arith))
