-- The pairs of a witness's text by rows: none, one row more at the front, and one at the end, as a loop over the rows writes them.
-- Assumes nothing.
use mathlib.Core.Path.{◌≡◌, refl}
use mathlib.Core.List.{List, [], ◌∷◌, ◌++◌}
use Prim.Native.Nat.{ℕ, zero, suc, ◌+◌, ◌<◌}
use native.Mathlib.Nat.{zero-add}
use native.Mathlib.Omega.{arith}
use Rattle.function.specs.Witness.{count_of}
use Rattle.text.specs.Text.{decimal, spaced}
use Rattle.text.proofs.DecimalLaws.{one_after_last}
use Rattle.notation.specs.WitnessText.{pair_text, pairs_text}

-- a count above 0 is written behind its row and a colon
pub pair_text_lem : (row count : ℕ) → 0 < count → pair_text row count ≡ spaced (decimal row) ++ (58 ∷ decimal count)
pair_text_lem row zero h = absurd (omega arith)
pair_text_lem row (suc count) h = refl

module _ (counts : List ℕ) where
  -- no rows have no pairs
  pub pairs_text_zero : (row : ℕ) → pairs_text counts zero row ≡ []
  unfolding pairs_text
  pairs_text_zero row = refl

  -- the pair of the first row, then those of the others
  pub pairs_text_suc : (m row : ℕ) → pairs_text counts (suc m) row ≡ pair_text row (count_of counts row) ++ pairs_text counts m (suc row)
  unfolding pairs_text
  pairs_text_suc m row = refl

  -- one row more: its pair comes last
  pub pairs_text_next : (row : ℕ) → pairs_text counts (row + 1) 0 ≡ pairs_text counts row 0 ++ pair_text row (count_of counts row)
  pairs_text_next row =
      rw zero-add at (one_after_last (pairs_text counts) (λ r. pair_text r (count_of counts r)) pairs_text_zero pairs_text_suc row 0)
