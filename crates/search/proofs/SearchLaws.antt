-- The search of a block by its least key: where that is not negative, no row of the block fails; where it is, it has the code of the lowest
-- failing row. Assumes nothing.
use mathlib.Core.Path.{◌≡◌, sym, ◌∙◌, ap}
use mathlib.Core.Bool.{Bool, true, false}
use mathlib.Core.List.{List}
use Prim.Native.Nat.{ℕ, zero, suc, ◌+◌, ◌*◌, ◌-◌, ◌≤◌, ◌<◌}
use native.Mathlib.Decide.{dec_le}
use native.Mathlib.Omega.{arith}
use Rattle.std.specs.Prelude.{Option, Some, None}
use lib.ListN.{length, get_or, take, drop, length-take, length-drop}
use lib.Seq.{get_or-take, get_or-drop}
use lib.IntN.{ℤ, pos, nat_abs, ◌+ℤ◌, ◌-ℤ◌}
use lib.Signed.{lt_z}
use Rattle.numbers.proofs.Int.{nat_abs_parts, size_add}
use Rattle.numbers.proofs.FirstLaws.{IsFirst}
use Rattle.types.specs.declared.table.Table.{Table}
use Rattle.table.specs.Gate.{in_range}
use Rattle.function.specs.Gate.{distance}
use Rattle.types.specs.declared.vector.Vector.{Vector}
use Rattle.function.specs.Failing.{failing}
use Rattle.numbers.specs.Tabulate.{Holds}
use Rattle.lanes.specs.Blocks.{blocks_of, lane_rows}
use Rattle.lanes.specs.Sums.{vector_sums, Narrow}
use Rattle.lanes.specs.Codes.{row_code, found_code}
use Rattle.search.specs.Keys.{one_of, key_of, goes_true, least_below, block_key}
use Rattle.search.proofs.KeyLaws.{keyed, one_size, flipped_back, row_key, least_passes, least_fails}
use Rattle.lanes.proofs.WeightLaws.{blocks_le}
use Rattle.search.proofs.BlockLaws.{sums_distance, lane_fails, lane_failing, lanes_pass}
use Rattle.table.specs.Table.{function_of}
use Rattle.function.specs.Function.{level}

-- ---- the parts of a block

-- the numbers of block h in a list
abbrev pub part : ℕ → List ℤ → List ℤ
part h l = take 32 (drop (h * 32) l)

pub length_part : (h : ℕ) (l : List ℤ) → h < 8 → length l ≡ 256 → length (part h l) ≡ 32
length_part h l within long = rw (length-take, length-drop) (omega arith)

-- a part of a list holds the numbers of the rows of block h
abbrev pub HoldsBlock : (ℕ → ℤ) → ℕ → List ℤ → Type 0
HoldsBlock f h part = (q : ℕ) → q < 32 → get_or part q (pos 0) ≡ f (32 * h + q)

pub part_holds : (f : ℕ → ℤ) (m h : ℕ) (l : List ℤ) → h < m → Holds f (32 * m) l → HoldsBlock f h (part h l)
part_holds f m h l within holds q k =
    let row : h * 32 + q ≡ 32 * h + q = omega arith in
    get_or-take 32 (drop (h * 32) l) q (pos 0) k
    ∙ get_or-drop (h * 32) l q (pos 0)
    ∙ ap (λ (r : ℕ). get_or l r (pos 0)) row
    ∙ holds (32 * h + q) (omega arith)

-- the sums of a block have room for what is taken from them
pub block_room : (t : Table) (sums ones : List ℤ) (h : ℕ) → Narrow 16000 sums → h < 8 → HoldsBlock (one_of t) h ones
    → (q : ℕ)
    → q < 32
    → nat_abs (get_or sums q (pos 0)) + nat_abs (get_or sums (32 + h) (pos 0)) + nat_abs (get_or ones q (pos 0)) < 32768
block_room t sums ones h narrow within holds q l = rw (holds q l) (omega (arith, narrow q h l within, one_size t (32 * h + q)))

-- a distance is at most the sizes of its two sums
distance_small : {d : ℤ} (a b : ℤ) (limit : ℕ) → nat_abs a + nat_abs b ≤ limit → a +ℤ b ≡ d → nat_abs d ≤ limit
distance_small a b limit h e = rw (← e) (omega (arith, size_add a b, nat_abs_parts a, nat_abs_parts b, nat_abs_parts (a +ℤ b)))

-- ---- the least key of a block

-- the code of row q of block h
abbrev block_code : Table → ℕ → ℕ → ℕ
block_code t h q = row_code (goes_true t (32 * h + q)) (32 * h + q)

code_bounds : (y : Bool) (r : ℕ) → (2 * r ≤ row_code y r) × (row_code y r ≤ 2 * r + 1)
code_bounds true r = (omega arith, omega arith)
code_bounds false r = (omega arith, omega arith)

-- the codes rise as the rows do
code_rising : (t : Table) (h p q : ℕ) → p ≤ q → q < 32 → block_code t h p ≤ block_code t h q
code_rising t h p q l k = by (dec_le q p)
  where
    by : Dec (q ≤ p) → block_code t h p ≤ block_code t h q
    by (yes same) = let e : p ≡ q = omega arith in rw e (omega arith)
    by (no below) =
        omega (arith, below, code_bounds (goes_true t (32 * h + p)) (32 * h + p), code_bounds (goes_true t (32 * h + q)) (32 * h + q))

-- no row below block h fails, by any vector of the sums
abbrev pub Passed : Table → List ℤ → ℕ → Type 0
Passed t sums h = (v : Vector) → sums ≡ vector_sums v → (r : ℕ) → r < 32 * h → lane_fails t v r ≡ false

-- what the search gives, by any vector of the sums
abbrev pub Answers : Table → List ℤ → Option ℕ → Type 0
Answers t sums found =
    (k : ℕ) (v : Vector) → length v.a ≡ 8
    → in_range k t.n v.a v.b ≡ true
    → sums ≡ vector_sums v
    → found ≡ found_code t (failing (function_of t) v)

-- the least key of block h
abbrev pub least_at : List ℤ → List ℤ → List ℤ → ℕ → ℤ
least_at sums ones keys h = least_below 32 (block_key sums (get_or sums (32 + h) (pos 0)) (part h ones) (part h keys))

-- the blocks below m have no negative least key
abbrev pub NoneNegative : List ℤ → List ℤ → List ℤ → ℕ → Type 0
NoneNegative sums ones keys m = (h : ℕ) → h < m → lt_z (least_at sums ones keys h) (pos 0) ≡ false

module _ (t : Table) (sums ones keys : List ℤ) (few : t.n ≤ 8)
    (hold-ones : Holds (one_of t) (lane_rows t.n) ones)
    (hold-keys : Holds (key_of t) (lane_rows t.n) keys)
    (narrow : Narrow 16000 sums)
  where
    module _ (h : ℕ) (inside : h < blocks_of t.n) (passed : Passed t sums h) where
      module _ (v : Vector) (is : sums ≡ vector_sums v) where
        abbrev fails_in : ℕ → Bool
        fails_in q = lane_fails t v (32 * h + q)

        abbrev key_in : ℕ → ℤ
        key_in = block_key sums (get_or sums (32 + h) (pos 0)) (part h ones) (part h keys)

        -- the flipped key of a row is that of its code
        block_key_lem : (q : ℕ) → q < 32 → key_in q ≡ keyed (fails_in q) (block_code t h q)
        unfolding block_key lane_fails
        block_key_lem q l =
            let within : h < 8 = omega (arith, inside, blocks_le t.n few) in
            let split = ap (λ (l : List ℤ). get_or l q (pos 0) +ℤ get_or l (32 + h) (pos 0)) is ∙ sums_distance v q h l within in
            let one = part_holds (one_of t) (blocks_of t.n) h ones inside hold-ones q l in
            let key = part_holds (key_of t) (blocks_of t.n) h keys inside hold-keys q l in
            let small = distance_small (get_or sums q (pos 0)) (get_or sums (32 + h) (pos 0)) 16000 (narrow q h l within) split in
            rw (split, one, key) (row_key t (32 * h + q) (distance v.a v.b (level 2 (32 * h + q))) (omega arith) small)

        code_small : (q : ℕ) → q < 32 → block_code t h q < 32768
        code_small q l = omega (arith, inside, blocks_le t.n few, code_bounds (goes_true t (32 * h + q)) (32 * h + q))

        -- what holds below the block, and of each row in it up to m
        up_to : (m : ℕ) → ((q : ℕ) → q < m → fails_in q ≡ false) → (r : ℕ) → r < 32 * h + m → lane_fails t v r ≡ false
        up_to m f r l = by (dec_le (32 * h) r)
          where
            by : Dec (32 * h ≤ r) → lane_fails t v r ≡ false
            by (yes past) =
                let split : 32 * h + (r - 32 * h) ≡ r = omega arith in ap (lane_fails t v) (sym split) ∙ f (r - 32 * h) (omega arith)
            by (no below) = passed v is r (omega (arith, below))

        block_first : (q : ℕ) → IsFirst fails_in 32 0 q → IsFirst (lane_fails t v) (32 * h + 32) 0 (32 * h + q)
        block_first q first = record {
          start = omega arith;
          inside = omega arith;
          passes = first.passes;
          before = λ r l k. up_to q (λ p m. first.before p (omega arith) m) r k;
        }

        passes_in : lt_z (least_at sums ones keys h) (pos 0) ≡ false → (q : ℕ) → q < 32 → fails_in q ≡ false
        passes_in = least_passes 32 fails_in (block_code t h) key_in code_small (code_rising t h) block_key_lem

        fails_in_lem : lt_z (least_at sums ones keys h) (pos 0) ≡ true
            → (q : ℕ) × IsFirst fails_in 32 0 q × (least_at sums ones keys h ≡ pos (block_code t h q) -ℤ pos 32768)
        fails_in_lem = least_fails 32 fails_in (block_code t h) key_in code_small (code_rising t h) block_key_lem

      -- where the least key is not negative, the block is passed
      block_passed : lt_z (least_at sums ones keys h) (pos 0) ≡ false → Passed t sums (suc h)
      block_passed e v is r l = up_to v is 32 (passes_in v is e) r (omega arith)

      -- where it is negative, it has the code of the lowest failing row
      pub block_found : (code : ℕ) → lt_z (least_at sums ones keys h) (pos 0) ≡ true → pos code ≡ least_at sums ones keys h +ℤ pos 32768
          → Answers t sums (Some code)
      block_found code e known k v eight range is =
          let found = fails_in_lem v is e in
          let row = 32 * h + found.0 in
          let answer = lane_failing t v k eight range (32 * h + 32) row (block_first v is found.0 found.1) in
          ap Some (flipped_back _ (block_code t h found.0) code found.2 known ∙ ap (λ (y : Bool). row_code y row) answer.1)
          ∙ sym (ap (found_code t) answer.0)

    -- blocks whose least keys are not negative are passed
    pub blocks_passed : (m : ℕ) → m ≤ blocks_of t.n → NoneNegative sums ones keys m → Passed t sums m
    blocks_passed zero l f = λ v is r k. absurd (omega arith)
    blocks_passed (suc m) l f = block_passed m (omega arith) (blocks_passed m (omega arith) (λ h k. f h (omega arith))) (f m (omega arith))

    -- where every block is passed, nothing is found
    pub nothing_found : Passed t sums (blocks_of t.n) → Answers t sums None
    nothing_found passed k v eight range is = sym (ap (found_code t) (lanes_pass t v k eight range (λ r l. passed v is r l)))
