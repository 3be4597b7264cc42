-- Laws of `first_from`, the search for the lowest number that passes a test: what it finds and when it finds nothing, each in both
-- directions, and how it goes on past numbers that fail, as a loop with an early return needs them. Assumes nothing.
use mathlib.Core.Path.{◌≡◌, refl, sym, ◌∙◌, ap, ap₂}
use mathlib.Core.Bool.{Bool, true, false, cond}
use mathlib.Core.Logic.{⊎_elim}
use Rattle.std.specs.Prelude.{Option, Some, None}
use Prim.Native.Nat.{ℕ, zero, suc, ◌+◌, ◌-◌, ◌<◌, ◌≤◌}
use native.Mathlib.Nat.{eq-or-lt_of_le, add-zero, zero-add, add-suc, suc-add}
use native.Mathlib.Omega.{arith}
use Rattle.numbers.specs.Tests.{first_from}

-- q is the lowest of the m numbers from r on that passes the test
pub record IsFirst (test : ℕ → Bool) (m r q : ℕ) : Type 0 where
  pub start : r ≤ q
  pub inside : q < r + m
  pub passes : test q ≡ true
  pub before : (p : ℕ) → r ≤ p → p < q → test p ≡ false

module _ (test : ℕ → Bool) where
  -- the search's clauses, by the test at its first number
  first_here : (m r : ℕ) → test r ≡ true → first_from test (suc m) r ≡ Some r
  unfolding first_from
  first_here m r e = ap (λ (v : Bool). cond v (Some r) (first_from test m (suc r))) e

  first_later : (m r : ℕ) → test r ≡ false → first_from test (suc m) r ≡ first_from test m (suc r)
  unfolding first_from
  first_later m r e = ap (λ (v : Bool). cond v (Some r) (first_from test m (suc r))) e

  -- a search that passed d numbers is a search from behind them
  pub first_skip : (d m r : ℕ) → ((q : ℕ) → r ≤ q → q < r + d → test q ≡ false) → first_from test (d + m) r ≡ first_from test m (r + d)
  first_skip zero m r h = ap₂ (first_from test) (zero-add m) (sym (add-zero r))
  first_skip (suc d) m r h =
      ap (λ (x : ℕ). first_from test x r) (suc-add d m)
      ∙ first_later (d + m) r (h r (omega arith) (omega arith))
      ∙ first_skip d m (suc r) (λ q l k. h q (omega arith) (omega arith))
      ∙ ap (first_from test m) (suc-add r d ∙ sym (add-suc r d))

  -- a number in range that passes, with none before it that does, is what is found
  pub first_at : (m r q : ℕ) → IsFirst test m r q → first_from test m r ≡ Some q
  first_at m r q f =
      let d = q - r in
      let more = m - suc d in
      let here : r + d ≡ q = omega arith in
      let count : m ≡ d + suc more = omega arith in
      ap (λ (x : ℕ). first_from test x r) count
      ∙ first_skip d (suc more) r (λ p l k. f.before p l (omega arith))
      ∙ ap (first_from test (suc more)) here
      ∙ first_here more q f.passes

  -- where no number in range passes, nothing is found
  pub first_fails : (m r : ℕ) → ((q : ℕ) → r ≤ q → q < r + m → test q ≡ false) → first_from test m r ≡ None
  unfolding first_from
  first_fails m r h = ap (λ (x : ℕ). first_from test x r) (sym (add-zero m)) ∙ first_skip m 0 r h

  -- q, from r on, fails if r does and q does where it is past r
  fails_from : (r q : ℕ) → test r ≡ false → r ≤ q → (suc r ≤ q → test q ≡ false) → test q ≡ false
  fails_from r q g l past = ⊎_elim (λ same. ap test (sym same) ∙ g) past (eq-or-lt_of_le l)

  some_by : (m r q : ℕ)
      → (first_from test m (suc r) ≡ Some q → IsFirst test m (suc r) q)
      → (v : Bool)
      → test r ≡ v
      → first_from test (suc m) r ≡ Some q
      → IsFirst test (suc m) r q
  some_by m r q later true g e =
      let same : r ≡ q = cc (first_here m r g) in
      record { start = omega arith; inside = omega arith; passes = ap test (sym same) ∙ g; before = λ p l k. absurd (omega arith) }
  some_by m r q later false g e =
      let f = later (sym (first_later m r g) ∙ e) in
      record {
        start = omega arith;
        inside = omega arith;
        passes = f.passes;
        before = λ p l k. fails_from r p g l (λ past. f.before p past k);
      }

  -- what is found is in range and passes, and none before it does
  pub first_some : (m r q : ℕ) → first_from test m r ≡ Some q → IsFirst test m r q
  unfolding first_from
  first_some zero r q e = let z : ◌≡◌ {A = ℕ} 0 1 = cc in absurd (omega arith)
  first_some (suc m) r q e = some_by m r q (first_some m (suc r) q) (test r) refl e

  none_by : (m r : ℕ)
      → (first_from test m (suc r) ≡ None → (q : ℕ) → suc r ≤ q → q < suc r + m → test q ≡ false)
      → (v : Bool)
      → test r ≡ v
      → first_from test (suc m) r ≡ None
      → (q : ℕ)
      → r ≤ q
      → q < r + suc m
      → test q ≡ false
  none_by m r later true g e q l k = let z : ◌≡◌ {A = ℕ} 0 1 = cc (first_here m r g) in absurd (omega arith)
  none_by m r later false g e q l k = fails_from r q g l (λ past. later (sym (first_later m r g) ∙ e) q past (omega arith))

  -- where nothing is found, no number in range passes
  pub first_none : (m r : ℕ) → first_from test m r ≡ None → (q : ℕ) → r ≤ q → q < r + m → test q ≡ false
  first_none zero r e q l k = absurd (omega arith)
  first_none (suc m) r e q l k = none_by m r (first_none m (suc r)) (test r) refl e q l k

-- tests that agree find the same
pub first_cong : (f g : ℕ → Bool) (m r : ℕ) → ((q : ℕ) → f q ≡ g q) → first_from f m r ≡ first_from g m r
unfolding first_from
first_cong f g zero r h = refl
first_cong f g (suc m) r h =
    ap₂ (λ (b : Bool) (later : Option ℕ). cond b (Some r) later) (h r) (first_cong f g m (suc r) h)
