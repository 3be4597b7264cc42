-- The laws `near` and `even` of `MeanIsRounded`, by where the exact mean lies. Assumes nothing.
use mathlib.Core.Path.{◌≡◌}
use Prim.Native.Nat.{ℕ, zero, suc, ◌+◌, ◌*◌, ◌-◌, ◌%◌, ◌≤◌, ◌<◌}
use native.Mathlib.Nat.{suc-mul, div-add-mod', mod-lt}
use native.Mathlib.Omega.{arith}
use Rattle.reporting.specs.Lines.{mean_tenths}
use Rattle.reporting.proofs.MeanLaws as mean
use Rattle.claims.specs.Report.{mean_error}

module _ (gates sum : ℕ) where
  abbrev below : ℕ
  below = mean.below gates sum

  abbrev rest : ℕ
  rest = (10 * sum) % gates

  whole : below * gates + rest ≡ 10 * sum
  whole = div-add-mod' (10 * sum) gates

  error_below : mean_error gates sum below ≡ rest
  error_below = omega (arith, whole)

  error_above : 0 < gates → mean_error gates sum (below + 1) ≡ gates - rest
  error_above some = omega (arith, whole, suc-mul below gates, mod-lt (10 * sum) some)

  -- on the half both are as near
  error_half : 0 < gates → gates ≡ 2 * rest → (more : ℕ) → more < 2 → 2 * mean_error gates sum (below + more) ≡ gates
  error_half some half zero h = omega (arith, error_below)
  error_half some half (suc zero) h = omega (arith, error_above some)
  error_half some half (suc (suc more)) h = absurd (omega arith)

  pub mean_near : 0 < gates → 2 * mean_error gates sum (mean_tenths gates sum) ≤ gates
  mean_near some =
      mean.by_half
      gates
      sum
      (λ m. 2 * mean_error gates sum m ≤ gates)
      (λ h. omega (arith, error_below))
      (λ h. omega (arith, error_above some))
      (λ h. omega (arith, error_half some h (below % 2) (omega arith)))

  pub mean_even : 0 < gates → 2 * mean_error gates sum (mean_tenths gates sum) ≡ gates → mean_tenths gates sum % 2 ≡ 0
  mean_even some =
      mean.by_half
      gates
      sum
      (λ m. 2 * mean_error gates sum m ≡ gates → m % 2 ≡ 0)
      (λ h e. absurd (omega (arith, error_below)))
      (λ h e. absurd (omega (arith, error_above some)))
      (λ h e. omega arith)
