-- Pairs that stand one after another, rows rising, in their ranges: they are the pairs of the counts that they set, and as many as the
-- counts above 0. Assumes nothing.
use mathlib.Core.Path.{◌≡◌, refl, sym, ◌∙◌, ap}
use mathlib.Core.List.{List, ◌++◌}
use Prim.Native.Nat.{ℕ, suc, ◌+◌, ◌-◌, ◌≤◌, ◌<◌}
use native.Mathlib.Nat.{add-zero}
use native.Mathlib.Omega.{arith}
use lib.ListN.{length, set, length-append}
use lib.Seq.{get_or-set_same, get_or-set_other}
use Rattle.table.specs.Witness.{count_limit}
use Rattle.function.specs.Witness.{count_of}
use Rattle.codec.specs.Number.{number_bytes}
use Rattle.codec.specs.RowList.{pairs_from, filled_from}
use Rattle.codec.proofs.StandsLaws.{Stands, stands_nil, stands_join}
use Rattle.codec.proofs.PairLaws.{pairs_more, pairs_add, pairs_clear, filled_more, filled_add, filled_clear, Clear}
use Rattle.codec.proofs.CountsLaws.{Listed, listed_set}

-- bytes stand at a position and end at another
abbrev pub Spans : List ℕ → ℕ → List ℕ → ℕ → Type 0
Spans s at w next = Stands s at w × (next ≡ at + length w)

-- bytes joined
pub spans_join : (s : List ℕ) (at : ℕ) (x y : List ℕ) (middle next : ℕ) → Spans s at x middle → Spans s middle y next → Spans s at (x ++ y) next
spans_join s at x y middle next (front, e) (back, d) = (stands_join s at x y front (rw e at back), rw length-append (omega arith))

-- a pair in its ranges that was read at a position
pub record PairRead (rows lowest : ℕ) (s : List ℕ) (at row count next : ℕ) : Type 0 where
  pub rises : lowest ≤ row
  pub inside : row < rows
  pub above : 0 < count
  pub most : count ≤ count_limit
  pub spans : Spans s at (number_bytes row ++ number_bytes count) next

-- so many rows from the lowest on, up to one whose count is above 0, and the others: the first pair is that row's
jump : (counts : List ℕ) (lowest row m later : ℕ) → lowest ≤ row → lowest + m ≡ suc row + later → Clear counts (row - lowest) lowest
    → 0 < count_of counts row
    → (pairs_from counts m lowest ≡ (number_bytes row ++ number_bytes (count_of counts row)) ++ pairs_from counts later (suc row))
    × (filled_from counts m lowest ≡ suc (filled_from counts later (suc row)))
jump counts lowest row m later h e clear above =
    let k = row - lowest in
    let rows : m ≡ k + suc later = omega arith in
    let place : lowest + k ≡ row = omega arith in (
      rw (rows, pairs_add counts k (suc later) lowest, pairs_clear counts k lowest clear, place, pairs_more counts later row above),
      rw (rows, filled_add counts k (suc later) lowest, filled_clear counts k lowest clear, place, filled_more counts later row above) (omega arith),
    )

-- so many pairs that were read, with counts before them: the counts at the end, whose pairs they are
pub record PairsRead (rows lowest m : ℕ) (before : List ℕ) (left : ℕ) (s : List ℕ) (at : ℕ) (counts : List ℕ) (next : ℕ) : Type 0 where
  pub listed : Listed rows counts
  pub below : (i : ℕ) → i < lowest → count_of counts i ≡ count_of before i
  pub filled : filled_from counts m lowest ≡ left
  pub spans : Spans s at (pairs_from counts m lowest) next

-- counts before the pairs from the lowest row on: those rows have 0
pub record Before (rows lowest : ℕ) (counts : List ℕ) : Type 0 where
  pub listed : Listed rows counts
  pub from : (i : ℕ) → lowest ≤ i → count_of counts i ≡ 0

-- with a pair set, they are those before the rows above it
pub before_set : (rows lowest : ℕ) (before s : List ℕ) (at row count next : ℕ) → rows ≤ 256 → Before rows lowest before
    → PairRead rows lowest s at row count next → Before rows (suc row) (set before row count)
before_set rows lowest before s at row count next most b pair =
    record {
      listed = listed_set row count pair.inside most pair.most b.listed;
      from = λ i h. get_or-set_other before row i count 0 (λ p. omega arith) ∙ b.from i (omega (arith, pair.rises));
    }

-- no pairs: the counts are those before
pub no_pairs : (rows lowest m : ℕ) (before s : List ℕ) (at : ℕ) → Before rows lowest before → PairsRead rows lowest m before 0 s at before at
no_pairs rows lowest m before s at b =
    let clear : Clear before m lowest = λ i h k. b.from i h in
    record {
      listed = b.listed;
      below = λ i h. refl;
      filled = filled_clear before m lowest clear;
      spans = rw pairs_clear (stands_nil s at, sym (add-zero at));
    }

-- a pair, and then those above it
pub one_pair : (rows lowest m : ℕ) (before : List ℕ) (left : ℕ) (s : List ℕ) (at row count middle : ℕ) (counts : List ℕ) (next : ℕ)
    → rows ≤ 256 → lowest + m ≡ 256 → Before rows lowest before → PairRead rows lowest s at row count middle
    → PairsRead rows (suc row) (255 - row) (set before row count) left s middle counts next → PairsRead rows lowest m before (suc left) s at counts next
one_pair rows lowest m before left s at row count middle counts next most total b pair others =
    let inside : row < length before = omega (arith, b.listed.long, pair.inside) in
    let was : (i : ℕ) → i < row → count_of (set before row count) i ≡ count_of before i = λ i h. get_or-set_other before row i count 0 (λ p. omega arith) in
    let other : (i : ℕ) → i < row → count_of counts i ≡ count_of before i = λ i h. others.below i (omega arith) ∙ was i h in
    let here : count_of counts row ≡ count = others.below row (omega arith) ∙ get_or-set_same before row count 0 inside in
    let clear : Clear counts (row - lowest) lowest = λ i h k. other i (omega (arith, pair.rises)) ∙ b.from i h in
    let (bytes, number) = jump counts lowest row m (255 - row) pair.rises (omega (arith, pair.inside)) clear (omega (arith, pair.above)) in
    let later = pairs_from counts (255 - row) (suc row) in
    record {
      listed = others.listed;
      below = λ i h. other i (omega (arith, pair.rises));
      filled = number ∙ ap suc others.filled;
      spans = rw (bytes, here) (spans_join s at (number_bytes row ++ number_bytes count) later middle next pair.spans others.spans);
    }
