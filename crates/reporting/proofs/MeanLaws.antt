-- The mean in tenths, by where the exact mean lies: below the half of a tenth, past it, or on it. Assumes nothing.
use mathlib.Core.Path.{◌≡◌, refl}
use mathlib.Core.Bool.{Bool, true, false, cond}
use Prim.Native.Nat.{ℕ, ◌+◌, ◌*◌, ◌/◌, ◌%◌, ◌<◌}
use native.Mathlib.Omega.{arith}
use lib.Dec.{ltb}
use borrow.Author.Tests.{ltb-true, ltb-false}
use Rattle.reporting.specs.Lines.{mean_tenths}

module _ (gates sum : ℕ) where
  -- the whole tenths in the exact mean, and twice what is left over
  abbrev pub below : ℕ
  below = (10 * sum) / gates

  abbrev pub twice : ℕ
  twice = 2 * ((10 * sum) % gates)

  -- what holds of every mean, if it holds below the half, past it and on it
  pub by_half : (P : ℕ → Type 0) → (twice < gates → P below) → (gates < twice → P (below + 1)) → (gates ≡ twice → P (below + below % 2)) → P (mean_tenths gates sum)
  by_half P under-half past-half on-half = by (ltb twice gates) (ltb gates twice) refl refl
    where
      by : (a b : Bool) → ltb twice gates ≡ a → ltb gates twice ≡ b → P (cond a below (cond b (below + 1) (below + below % 2)))
      by true b e f = under-half (ltb-true twice gates e)
      by false true e f = past-half (ltb-true gates twice f)
      by false false e f = on-half (omega (arith, ltb-false twice gates e, ltb-false gates twice f))
