-- Laws of counts: a count with 1 added, a pair of them, no counts, and the test that two arrays have the same. Assumes nothing.
use mathlib.Core.Path.{◌≡◌, refl, sym, ◌∙◌, ap}
use mathlib.Core.Logic.{◌≢◌, ◌↔◌}
use mathlib.Core.Bool.{true}
use mathlib.Core.List.{List, [], ◌∷◌}
use Rattle.std.specs.Prelude.{Option, Some, None}
use Prim.Native.Nat.{ℕ, zero, suc, ◌+◌, ◌^◌, ◌≤◌, ◌<◌}
use native.Mathlib.Omega.{arith}
use lib.Dec.{eqb}
use lib.ListN.{length, get_or, replicate, length-set}
use lib.Seq.{ext_get_or, get_or-set_same, get_or-set_other}
use borrow.Author.Tests.{eqb-true, eq-eqb}
use Rattle.numbers.proofs.TestLaws.{all_below_at, all_below_from}
use Rattle.function.specs.Witness.{one_more, zeros, same_counts}
use Rattle.function.specs.Binate.{pair_more}

-- ---- a count more

-- there are as many counts as before
pub length_one_more : (r : ℕ) (counts : List ℕ) → length (one_more r counts) ≡ length counts
length_one_more r counts = length-set counts r (get_or counts r 0 + 1)

-- the count of the row is one more, and those of the others are as before
pub one_more_same : (r : ℕ) (counts : List ℕ) → r < length counts → get_or (one_more r counts) r 0 ≡ get_or counts r 0 + 1
one_more_same r counts h = get_or-set_same counts r (get_or counts r 0 + 1) 0 h

pub one_more_other : (r q : ℕ) (counts : List ℕ) → q ≢ r → get_or (one_more r counts) q 0 ≡ get_or counts q 0
one_more_other r q counts n = get_or-set_other counts r q (get_or counts r 0 + 1) 0 n

-- a count more at a row is at most one more at each
pub one_more_le : (r q : ℕ) (counts : List ℕ) → get_or (one_more r counts) q 0 ≤ get_or counts q 0 + 1
one_more_le r q [] = omega arith
one_more_le zero zero (x ∷ xs) = omega arith
one_more_le zero (suc q) (x ∷ xs) = omega arith
one_more_le (suc r) zero (x ∷ xs) = omega arith
one_more_le (suc r) (suc q) (x ∷ xs) = one_more_le r q xs

-- ---- a pair more

module _ (base place : ℕ) where
  -- there are as many counts as before
  pub length_pair_more : (o : Option ℕ) (counts : List ℕ) → length (pair_more base place o counts) ≡ length counts
  length_pair_more None counts = refl
  length_pair_more (Some r) counts = length_one_more (r + base ^ place) (one_more r counts) ∙ length_one_more r counts

  -- a pair adds at most 2 to a count
  pub pair_more_le : (o : Option ℕ) (counts : List ℕ) (q : ℕ) → get_or (pair_more base place o counts) q 0 ≤ get_or counts q 0 + 2
  pair_more_le None counts q = omega arith
  pair_more_le (Some r) counts q = omega (arith, one_more_le (r + base ^ place) q (one_more r counts), one_more_le r q counts)

-- ---- no counts

zeros_of : (n q : ℕ) → get_or {A = ℕ} (replicate n 0) q 0 ≡ 0
zeros_of zero q = refl
zeros_of (suc n) zero = refl
zeros_of (suc n) (suc q) = zeros_of n q

-- each count of `zeros` is 0
pub get_d_zeros : (q : ℕ) → get_or zeros q 0 ≡ 0
get_d_zeros q = zeros_of 256 q

-- ---- the same counts

-- lists of 256 counts are equal exactly if they agree at each place
pub same_counts_correct : (xs ys : List ℕ) → length xs ≡ 256 → length ys ≡ 256 → same_counts xs ys ≡ true ↔ xs ≡ ys
unfolding same_counts
same_counts_correct xs ys n m = (
  λ e. ext_get_or 0 xs ys (n ∙ sym m) (λ r h. eqb-true _ _ (all_below_at 256 (λ q. eqb (get_or xs q 0) (get_or ys q 0)) e r (omega arith))),
  λ e. all_below_from 256 (λ q. eqb (get_or xs q 0) (get_or ys q 0)) (λ r h. eq-eqb _ _ (ap (λ (l : List ℕ). get_or l r 0) e)),
)
