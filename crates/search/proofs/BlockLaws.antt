-- Laws of blocks: the distance of a row is the sum of its place in the block and that of the block's higher inputs; and a table that fills
-- its block by repeating its rows has the same lowest failing row. Assumes nothing.
use mathlib.Core.Path.{◌≡◌, sym, ◌∙◌, ap, ap₂}
use mathlib.Core.Bool.{Bool, true, false, ◌&&◌}
use mathlib.Core.List.{List, [], ◌∷◌}
use Rattle.std.specs.Prelude.{Some, None}
use Prim.Native.Nat.{ℕ, zero, suc, ◌+◌, ◌*◌, ◌-◌, ◌/◌, ◌%◌, ◌^◌, ◌≤◌, ◌<◌}
use native.Mathlib.Nat.{mod-lt, mod-eq_of_lt}
use native.Mathlib.Decide.{dec_le}
use native.Mathlib.Omega.{arith}
use lib.Pow.{pow_pos, pow_mono, pow-add, shr-shr, field, mod-mod-pow}
use lib.ListN.{length, get_or}
use lib.IntN.{ℤ, pos, ◌+ℤ◌, ◌-ℤ◌, ◌*ℤ◌, *ℤ-zero}
use lib.Signed.{lt_z}
use Rattle.numbers.specs.Sum.{weighted_sum}
use Rattle.numbers.proofs.Int.{integers, parts_add, parts_sub}
use Rattle.numbers.proofs.SumLaws.{weighted_sum_nil, weighted_sum_cons, weighted_sum_ext, weighted_sum_add}
use Rattle.numbers.proofs.TestLaws.{no_true, and_left}
use Rattle.numbers.proofs.FirstLaws.{IsFirst}
use Rattle.types.specs.declared.table.Table.{Table}
use Rattle.table.specs.Table.{rows, value, cared, function_of}
use Rattle.function.specs.Function.{level}
use Rattle.table.specs.Gate.{in_range}
use Rattle.function.specs.Gate.{distance}
use Rattle.table.proofs.TableLaws.{level_past}
use Rattle.types.specs.declared.vector.Vector.{Vector}
use Rattle.function.specs.Failing.{margin, fails, failing}
use Rattle.function.proofs.RangeLaws.{in_range_correct, in_range_past}
use Rattle.function.proofs.FailingLaws.{failing_at, none_failing}
use Rattle.lanes.specs.Blocks.{lane_rows, lane_value, lane_cared}
use Rattle.lanes.specs.Sums.{vector_sums}
use Rattle.lanes.proofs.SumsLaws.{sums_low, sums_high}
use Rattle.search.specs.Keys.{goes_true}

-- ---- how many blocks there are

-- the blocks have a row for each of the table's
pub rows_lanes : (n : ℕ) → 2 ^ n ≤ lane_rows n
rows_lanes n = omega (arith, pow-add 2 5 (n - 5), pow_mono {i = n} {j = 5 + (n - 5)} (omega arith))

-- a row past the first block is one of the table's
pub past_block : (n r : ℕ) → 32 ≤ r → r < lane_rows n → r < 2 ^ n
past_block n r h k = by (dec_le 5 n)
  where
    by : Dec (5 ≤ n) → r < 2 ^ n
    by (yes full) =
        let split : 5 + (n - 5) ≡ n = omega arith in
        omega (arith, pow-add 2 5 (n - 5), ap (λ (x : ℕ). 2 ^ x) split)
    by (no few) = let None : n - 5 ≡ 0 = omega (arith, few) in absurd (omega (arith, ap (λ (x : ℕ). 2 ^ x) None))

-- ---- the distance of a row, from the sums

-- the levels of row 32 h + q: below five those of q, and from there on those of 32 h
block_level : (q h : ℕ) → q < 32 → (place : ℕ) → level 2 (32 * h + q) place ≡ level 2 q place + level 2 (32 * h) place
block_level q h l zero = omega arith
block_level q h l (suc zero) = omega arith
block_level q h l (suc (suc zero)) = omega arith
block_level q h l (suc (suc (suc zero))) = omega arith
block_level q h l (suc (suc (suc (suc zero)))) = omega arith
block_level q h l (suc (suc (suc (suc (suc place))))) =
    let past = level_past {n = 5} q (suc (suc (suc (suc (suc place))))) l (omega arith) in
    let whole : (32 * h + q) / 32 ≡ 32 * h / 32 = omega arith in
    let both = sym (higher (32 * h + q)) ∙ ap (λ (x : ℕ). x / 2 ^ place % 2) whole ∙ higher (32 * h) in
    omega (arith, past, both)
  where
    higher : (r : ℕ) → r / 32 / 2 ^ place % 2 ≡ level 2 r (suc (suc (suc (suc (suc place)))))
    higher r =
        let exponent : 5 + place ≡ suc (suc (suc (suc (suc place)))) = omega arith in
        ap (λ (x : ℕ). x % 2) (shr-shr r 5 place ∙ ap (λ (k : ℕ). r / 2 ^ k) exponent)

-- a threshold is taken off before the higher inputs are added, or after
higher_later : (low high th : ℤ) → low -ℤ th +ℤ high ≡ low +ℤ high -ℤ th
higher_later low high th = omega (integers, parts_sub low th, parts_add (low -ℤ th) high, parts_add low high, parts_sub (low +ℤ high) th)

-- the distance of row 32 h + q is the sum of place q and of place 32 + h
pub sums_distance : (v : Vector) (q h : ℕ) → q < 32 → h < 8
    → get_or (vector_sums v) q (pos 0) +ℤ get_or (vector_sums v) (32 + h) (pos 0) ≡ distance v.a v.b (level 2 (32 * h + q))
unfolding distance
sums_distance v q h l k =
    let low = level 2 q in
    let high = level 2 (32 * h) in
    ap₂ ◌+ℤ◌ (sums_low v q l) (sums_high v h k)
    ∙ higher_later (weighted_sum v.a low) (weighted_sum v.a high) v.b
    ∙ ap (λ (s : ℤ). s -ℤ v.b)
    (sym (weighted_sum_add v.a low high)
    ∙ sym (weighted_sum_ext v.a (level 2 (32 * h + q)) (λ p. low p + high p) (λ p m. block_level q h l p)))

-- ---- repeated rows

-- sums are equal where each term is
weighted_sum_terms : (ws : List ℤ) (l k : ℕ → ℕ)
    → ((place : ℕ) → place < length ws → pos (l place) *ℤ get_or ws place (pos 0) ≡ pos (k place) *ℤ get_or ws place (pos 0))
    → weighted_sum ws l ≡ weighted_sum ws k
weighted_sum_terms [] l k e = rw (weighted_sum_nil l, weighted_sum_nil k)
weighted_sum_terms (w ∷ ws) l k e =
    weighted_sum_cons w ws l
    ∙ ap₂ ◌+ℤ◌ (e 0 (omega arith))
    (weighted_sum_terms ws (λ place. l (suc place)) (λ place. k (suc place)) (λ place h. e (suc place) (omega arith)))
    ∙ sym (weighted_sum_cons w ws k)

-- the levels below n do not change where a row is cut to n inputs
level_cut : (n r place : ℕ) → place < n → level 2 r place ≡ level 2 (r % 2 ^ n) place
level_cut n r place h =
    let more = n - (place + 1) in
    let count : n ≡ (more + 1) + place = omega arith in
    sym
    (ap (λ (k : ℕ). r % 2 ^ k / 2 ^ place % 2) count
    ∙ ap (λ (x : ℕ). x % 2) (field r (more + 1) place)
    ∙ mod-mod-pow (r / 2 ^ place) more 1)

module _ (t : Table) (v : Vector) where
  -- a row of the blocks fails
  unfoldable pub lane_fails : ℕ → Bool
  lane_fails r = lane_cared t r && lt_z (margin (lane_value t r) (distance v.a v.b (level 2 r))) (pos 1)

  module _ (k : ℕ) (eight : length v.a ≡ 8) (range : in_range k t.n v.a v.b ≡ true) where
    -- a row has the distance of the row that it repeats
    distance_cut : (r : ℕ) → distance v.a v.b (level 2 r) ≡ distance v.a v.b (level 2 (r % rows t))
    unfolding distance
    distance_cut r =
        ap (λ (s : ℤ). s -ℤ v.b)
        (weighted_sum_terms v.a (level 2 r) (level 2 (r % rows t)) (λ place h. by place h (dec_le t.n place)))
      where
        by : (place : ℕ) → place < length v.a → Dec (t.n ≤ place)
            → pos (level 2 r place) *ℤ get_or v.a place (pos 0) ≡ pos (level 2 (r % rows t) place) *ℤ get_or v.a place (pos 0)
        by place h (yes past) =
            let None = in_range_past ((in_range_correct k t.n v.a v.b).0 range) place past (omega arith) in
            rw None (*ℤ-zero (pos (level 2 r place)) ∙ sym (*ℤ-zero (pos (level 2 (r % rows t) place))))
        by place h (no below) = ap (λ (x : ℕ). pos x *ℤ get_or v.a place (pos 0)) (level_cut t.n r place (omega (arith, below)))

    -- so it fails where that row does
    lane_fails_lem : (r : ℕ) → lane_fails r ≡ fails (function_of t) v (r % rows t)
    unfolding lane_fails fails lane_value lane_cared
    lane_fails_lem r = ap (λ (d : ℤ). cared t (r % rows t) && lt_z (margin (value t (r % rows t)) d) (pos 1)) (distance_cut r)

    row_fails_lem : (r : ℕ) → r < rows t → lane_fails r ≡ fails (function_of t) v r
    row_fails_lem r h = lane_fails_lem r ∙ ap (fails (function_of t) v) (mod-eq_of_lt h)

    -- the lowest row of the blocks that fails is one of the table's
    lane_first : (m r : ℕ) → IsFirst lane_fails m 0 r → r < rows t
    lane_first m r first = by (dec_le (rows t) r)
      where
        by : Dec (rows t ≤ r) → r < rows t
        by (no below) = omega (arith, below)
        by (yes past) =
            let cut = r % rows t in
            let small : cut < rows t = mod-lt r (pow_pos t.n) in
            let passes = first.before cut (omega arith) (omega arith) in
            absurd (no_true (sym passes ∙ row_fails_lem cut small ∙ sym (lane_fails_lem r) ∙ first.passes))

    -- and the table's lowest; it goes as what it is, since it is cared for
    pub lane_failing : (m r : ℕ) → IsFirst lane_fails m 0 r → (failing (function_of t) v ≡ Some r) × (goes_true t r ≡ value t r)
    unfolding lane_fails lane_value
    lane_failing m r first =
        let inside = lane_first m r first in (
          failing_at (function_of t) v r
              record {
                start = omega arith;
                inside = omega arith;
                passes = sym (row_fails_lem r inside) ∙ first.passes;
                before = λ q l h. sym (row_fails_lem q (omega arith)) ∙ first.before q l h;
              },
          ap₂ ◌&&◌ (and_left (lane_cared t r) _ first.passes) (ap (value t) (mod-eq_of_lt inside)),
        )

    -- where no row of the blocks fails, no row of the table does
    pub lanes_pass : ((r : ℕ) → r < lane_rows t.n → lane_fails r ≡ false) → failing (function_of t) v ≡ None
    lanes_pass pass = none_failing (function_of t) v (λ r h. sym (row_fails_lem r h) ∙ pass r (omega (arith, rows_lanes t.n)))
