-- The search for the lowest failing row by blocks. An input doubles the rows: each row without it has a partner with it, whose distance is
-- the row's and the input's weight. So a list that holds the distances of the first rows is made to hold those of twice as many, and what
-- a search of the partners finds goes on from the search of the rows before them. Assumes nothing.
use mathlib.Core.Path.{◌≡◌, sym, ◌∙◌, ap, ap₂}
use mathlib.Core.Bool.{Bool, false, ◌&&◌}
use mathlib.Core.List.{List}
use Rattle.std.specs.Prelude.{Option, Some, None}
use Prim.Native.Nat.{ℕ, suc, ◌+◌, ◌-◌, ◌^◌, ◌≤◌, ◌<◌}
use native.Mathlib.Decide.{dec_le}
use native.Mathlib.Omega.{arith}
use lib.ListN.{length, get_or, set}
use lib.Seq.{get_or-set_same, get_or-set_other}
use lib.IntN.{ℤ, pos, ◌+ℤ◌}
use lib.Signed.{lt_z}
use borrow.Author.Tests.{lt-ltb, le-ltb}
use Rattle.numbers.specs.Tests.{first_from}
use Rattle.numbers.specs.Tabulate.{Holds}
use Rattle.numbers.proofs.FirstLaws.{IsFirst, first_some, first_none}
use Rattle.types.specs.declared.table.Table.{Table}
use Rattle.table.specs.Table.{bit_at, rows, value, cared, function_of}
use Rattle.function.specs.Gate.{distance}
use Rattle.table.proofs.TableLaws.{level_past}
use Rattle.types.specs.declared.vector.Vector.{Vector}
use Rattle.function.specs.Failing.{margin, fails, failing}
use Rattle.scan.specs.Scan.{row_distance, fails_at, doubled}
use Rattle.scan.proofs.DistanceLaws.{partner_distance}
use Rattle.function.proofs.FailingLaws.{failing_at, none_failing}
use Rattle.function.specs.Function.{level}

-- ---- distances that a list holds

-- a list holds a value more where it is stored
pub holds_more : {x : ℤ} (f : ℕ → ℤ) (m : ℕ) (list : List ℤ) → m < length list → x ≡ f m → Holds f m list → Holds f (m + 1) (set list m x)
holds_more {x} f m list l e holds r k = by (dec_le m r)
  where
    by : Dec (m ≤ r) → get_or (set list m x) r (pos 0) ≡ f r
    by (yes last) = let same : m ≡ r = omega arith in rw (← same) (get_or-set_same list m x (pos 0) l ∙ e)
    by (no before) = get_or-set_other list m r x (pos 0) (λ same. before (omega arith)) ∙ holds r (omega (arith, before))

module _ (half : ℕ) (weight : ℤ) (distances : List ℤ) where
  -- the rows below `half` keep their distances
  pub doubled_low : (r : ℕ) → r < half → doubled half weight distances r ≡ get_or distances r (pos 0)
  unfolding doubled
  doubled_low r h = rw (lt-ltb r half h)

  -- each of the others has one more weight than the row `half` below it
  pub doubled_high : (q : ℕ) → doubled half weight distances (half + q) ≡ get_or distances q (pos 0) +ℤ weight
  unfolding doubled
  doubled_high q =
      let back : half + q - half ≡ q = omega arith in
      rw (le-ltb (half + q) half (omega arith)) (ap (λ (p : ℕ). get_or distances p (pos 0) +ℤ weight) back)

-- ---- the rows passed

-- a list holds the distances of the rows below m, and none of those from `low` on fails
pub record Passed (cares values : List ℕ) (d : ℕ → ℤ) (low m : ℕ) (distances : List ℤ) : Type 0 where
  pub holds : Holds d m distances
  pub none_fails : (r : ℕ) → low ≤ r → r < m → fails_at cares values d r ≡ false

-- a row more, with its distance stored, is passed where it does not fail
pub passed_more : (cares values : List ℕ) (d : ℕ → ℤ) (low m : ℕ) (distances : List ℤ) (x : ℤ) → m < length distances → x ≡ d m → fails_at cares values d m ≡ false
    → Passed cares values d low m distances
    → Passed cares values d low (m + 1) (set distances m x)
passed_more cares values d low m distances x k e f p = record { holds = holds_more d m distances k e p.holds; none_fails = λ r g l. fail r g l (dec_le m r) }
  where
    fail : (r : ℕ) → low ≤ r → r < m + 1 → Dec (m ≤ r) → fails_at cares values d r ≡ false
    fail r g l (yes high) = let same : m ≡ r = omega arith in rw (← same) f
    fail r g l (no below) = p.none_fails r g (omega (arith, below))

-- a row fails or not by its own distance
fails_at_ext : (cares values : List ℕ) (d e : ℕ → ℤ) (r : ℕ) → d r ≡ e r → fails_at cares values d r ≡ fails_at cares values e r
unfolding fails_at
fails_at_ext cares values d e r same = rw same

-- what code tests, by the row's care and value and its distance x, is whether the row fails
pub fails_at_test : {test : Bool} {x : ℤ} (cares values : List ℕ) (d : ℕ → ℤ) (r : ℕ)
    → test ≡ (bit_at cares r && lt_z (margin (bit_at values r) x) (pos 1)) → x ≡ d r
    → test ≡ fails_at cares values d r
unfolding fails_at
fails_at_test cares values d r e same = e ∙ ap (λ (z : ℤ). bit_at cares r && lt_z (margin (bit_at values r) z) (pos 1)) same

-- ---- the block of an input: the partners of the rows below 2 ^ place

-- the distances of these rows and their partners, from a list that holds those of the rows
abbrev pub block_distance : List ℤ → ℕ → List ℤ → ℕ → ℤ
block_distance ws place distances = doubled (2 ^ place) (get_or ws place (pos 0)) distances

-- the search through the block
abbrev pub block_search : (cares values : List ℕ) → List ℤ → ℕ → List ℤ → Option ℕ
block_search cares values ws place distances = first_from (fails_at cares values (block_distance ws place distances)) (2 ^ place) (2 ^ place)

module _ (ws : List ℤ) (th : ℤ) (cares values : List ℕ) (place : ℕ) (distances : List ℤ)
    (passed : Passed cares values (row_distance ws th) 0 (2 ^ place) distances)
  where
    -- the rows before the block and in it have their distances
    block_distance_lem : (r : ℕ) → r < 2 ^ suc place → block_distance ws place distances r ≡ distance ws th (level 2 r)
    block_distance_lem r h = by (dec_le (2 ^ place) r)
      where
        by : Dec (2 ^ place ≤ r) → block_distance ws place distances r ≡ distance ws th (level 2 r)
        by (yes high) =
            let q = r - 2 ^ place in
            let below : q < 2 ^ place = omega arith in
            let split : r ≡ 2 ^ place + q = omega arith in
            let partner : q + 2 ^ place ≡ r = omega arith in
            ap (block_distance ws place distances) split
            ∙ doubled_high (2 ^ place) (get_or ws place (pos 0)) distances q
            ∙ ap (λ (z : ℤ). z +ℤ get_or ws place (pos 0)) (passed.holds q below)
            ∙ sym (partner_distance ws th place q (level_past {n = place} q place below (omega arith)))
            ∙ ap (row_distance ws th) partner
        by (no low) =
            let below : r < 2 ^ place = omega (arith, low) in
            doubled_low (2 ^ place) (get_or ws place (pos 0)) distances r below ∙ passed.holds r below

    -- so they fail in the block as they do by their distances
    block_fails : (r : ℕ) → r < 2 ^ suc place → fails_at cares values (block_distance ws place distances) r ≡ fails_at cares values (row_distance ws th) r
    block_fails r h = fails_at_ext cares values (block_distance ws place distances) (row_distance ws th) r (block_distance_lem r h)

    -- where no row of the block before m fails, no row before m does
    none_before : (m : ℕ) → m ≤ 2 ^ suc place → ((r : ℕ) → 2 ^ place ≤ r → r < m → fails_at cares values (block_distance ws place distances) r ≡ false)
        → (r : ℕ)
        → r < m
        → fails_at cares values (row_distance ws th) r ≡ false
    none_before m h f r l = by (dec_le (2 ^ place) r)
      where
        by : Dec (2 ^ place ≤ r) → fails_at cares values (row_distance ws th) r ≡ false
        by (yes high) = sym (block_fails r (omega arith)) ∙ f r high l
        by (no low) = passed.none_fails r (omega arith) (omega (arith, low))

    -- a row that is found in the block is the lowest that fails
    pub block_row : (q : ℕ) → block_search cares values ws place distances ≡ Some q → IsFirst (fails_at cares values (row_distance ws th)) (2 ^ suc place) 0 q
    block_row q e =
        let f = first_some (fails_at cares values (block_distance ws place distances)) (2 ^ place) (2 ^ place) q e in
        record {
          start = omega arith;
          inside = omega arith;
          passes = sym (block_fails q (omega arith)) ∙ f.passes;
          before = λ r g l. none_before q (omega arith) f.before r l;
        }

    -- where none is found, the block is passed
    pub block_passed : (new : List ℤ) → block_search cares values ws place distances ≡ None → Holds (block_distance ws place distances) (2 ^ suc place) new
        → Passed cares values (row_distance ws th) 0 (2 ^ suc place) new
    block_passed new e h =
        let f = first_none (fails_at cares values (block_distance ws place distances)) (2 ^ place) (2 ^ place) e in
        record {
          holds = λ r l. h r l ∙ block_distance_lem r l;
          none_fails = λ r g l. none_before (2 ^ suc place) (omega arith) (λ p high k. f p high (omega arith)) r l;
        }

-- ---- the search of a table

module _ (t : Table) (v : Vector) (cares values : List ℕ) (read : (cares ≡ t.cares) × (values ≡ t.bytes)) where
  -- a row of the table fails by the cares and values that were read from it
  fails_read : (r : ℕ) → fails_at cares values (row_distance v.a v.b) r ≡ fails (function_of t) v r
  unfolding fails_at fails
  fails_read r =
      let care : bit_at cares r ≡ cared t r = ap (λ (l : List ℕ). bit_at l r) read.0 in
      let is : bit_at values r ≡ value t r = ap (λ (l : List ℕ). bit_at l r) read.1 in
      ap₂ (λ (c y : Bool). c && lt_z (margin y (distance v.a v.b (level 2 r))) (pos 1)) care is

  -- the lowest of the rows below m that fails is what is found
  pub scan_row : (m q : ℕ) → m ≤ rows t → IsFirst (fails_at cares values (row_distance v.a v.b)) m 0 q → Some q ≡ failing (function_of t) v
  scan_row m q h f =
      sym
      (failing_at (function_of t) v q
      record {
        start = omega arith;
        inside = omega arith;
        passes = sym (fails_read q) ∙ f.passes;
        before = λ r l k. sym (fails_read r) ∙ f.before r l k;
      })

  -- where no row fails, nothing is
  pub scan_nowhere : ((r : ℕ) → r < rows t → fails_at cares values (row_distance v.a v.b) r ≡ false) → None ≡ failing (function_of t) v
  scan_nowhere p = sym (none_failing (function_of t) v (λ r h. sym (fails_read r) ∙ p r h))
