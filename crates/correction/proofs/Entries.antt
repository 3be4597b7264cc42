-- Lists of integers by their entries: a list holds a function's values where a test that antt computes passes, one entry after the other;
-- what a loop that fills an array reads where it has not stored yet; sums of 16 bits; and the values of a function in two parts. Assumes nothing.
use mathlib.Core.Path.{◌≡◌, ◌∙◌, sym, ap, ap₂}
use mathlib.Core.Bool.{Bool, true, ◌&&◌}
use mathlib.Core.List.{List, [], ◌∷◌, ◌++◌, append-nil, append_assoc}
use Prim.Native.Nat.{ℕ, zero, suc, ◌+◌, ◌^◌, ◌<◌}
use native.Mathlib.Nat.{add-zero, zero-add, add-suc, suc-add}
use native.Mathlib.Omega.{arith}
use lib.ListN.{length, get_or}
use lib.IntN.{ℤ, pos, nat_abs, ◌+ℤ◌}
use mir.Syntax.{w16}
use mir.Val.{to_z, of_z, SFits}
use mir.Facts.{to_z-of_z}
use Rattle.numbers.proofs.Int.{nat_abs_parts, size_add}
use Rattle.numbers.proofs.Widths.{size_fits}
use Rattle.numbers.proofs.TestLaws.{and_left, and_right, same_z_correct}
use Rattle.numbers.specs.Tabulate.{tabulate, Holds}
use Rattle.numbers.proofs.TabulateLaws.{filled, get_d_unfilled}
use Rattle.numbers.specs.Tests.{same_z}

-- each entry is f at its place, counted from i
unfoldable pub agrees : (ℕ → ℤ) → ℕ → List ℤ → Bool
agrees f i [] = true
agrees f i (x ∷ xs) = same_z x (f i) && agrees f (suc i) xs

from : (f : ℕ → ℤ) (xs : List ℤ) (i : ℕ) → agrees f i xs ≡ true → (k : ℕ) → k < length xs → get_or xs k (pos 0) ≡ f (i + k)
unfolding agrees
from f [] i e k h = absurd (omega arith)
from f (x ∷ xs) i e zero h = (same_z_correct x (f i)).0 (and_left (same_z x (f i)) (agrees f (suc i) xs) e) ∙ ap f (sym (add-zero i))
from f (x ∷ xs) i e (suc k) h =
    from f xs (suc i) (and_right (same_z x (f i)) (agrees f (suc i) xs) e) k (omega arith) ∙ ap f (suc-add i k ∙ sym (add-suc i k))

-- where the test passes from 0 on, the list holds the function's values
pub holds_agree : (f : ℕ → ℤ) (xs : List ℤ) → agrees f 0 xs ≡ true → Holds f (length xs) xs
holds_agree f xs e k h = from f xs 0 e k h ∙ ap f (zero-add k)

-- an array that is filled up to a place has its old entry there
pub get_d_next : (f : ℕ → ℤ) (old : List ℤ) (m : ℕ) → get_or (filled f old m) m (pos 0) ≡ get_or old m (pos 0)
get_d_next f old m = rw add-zero at (get_d_unfilled f old m 0 (pos 0))

-- a number that is read as it came and another are their sum, and fit 16 bits where their sizes do
pub sum_is : {x old y : ℤ} → SFits w16 x → x ≡ old → SFits w16 y → to_z w16 (of_z w16 x) +ℤ to_z w16 (of_z w16 y) ≡ old +ℤ y
sum_is fits is y_fits = ap₂ ◌+ℤ◌ (to_z-of_z fits ∙ is) (to_z-of_z y_fits)

pub sum_fits : (x y : ℤ) → nat_abs x + nat_abs y < 2 ^ 15 → SFits w16 (x +ℤ y)
sum_fits x y room = size_fits (omega (arith, room, size_add x y, nat_abs_parts x, nat_abs_parts y))

-- the values of m numbers, and of n behind them
pub tabulate_add : (f : ℕ → ℤ) (m n : ℕ) → tabulate (m + n) f ≡ tabulate m f ++ tabulate n (λ i. f (m + i))
unfolding tabulate
tabulate_add f m zero = rw add-zero (sym (append-nil (tabulate m f)))
tabulate_add f m (suc n) =
    ap (λ (k : ℕ). tabulate k f) (add-suc m n)
    ∙ ap (λ (l : List ℤ). l ++ (f (m + n) ∷ [])) (tabulate_add f m n)
    ∙ append_assoc (tabulate m f) (tabulate n (λ i. f (m + i))) (f (m + n) ∷ [])
