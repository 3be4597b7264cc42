-- What a correction of the vector adds to its sums: at each place an entry of the table of steps, by the row's code. Assumes nothing.
use mathlib.Core.Path.{◌≡◌, sym, ◌∙◌, ap, ap₂}
use mathlib.Core.Bool.{Bool, true, false}
use mathlib.Core.List.{List, [], ◌∷◌, ◌++◌}
use Prim.Native.Nat.{ℕ, zero, suc, ◌+◌, ◌*◌, ◌-◌, ◌/◌, ◌%◌, ◌≤◌, ◌<◌}
use native.Mathlib.Omega.{arith}
use lib.Dec.{eqb}
use lib.ListN.{length, get_or, take, drop}
use lib.Seq.{take_at, get_or-take, get_or-drop}
use lib.IntN.{ℤ, pos, negsuc, nat_abs, ◌+ℤ◌, ◌-ℤ◌, ◌*ℤ◌, zero-*ℤ}
use borrow.Author.Tests.{eq-eqb, ne_eqb}
use Rattle.numbers.specs.Sum.{sum_below, weighted_sum}
use Rattle.numbers.proofs.Int.{integers, parts_add, parts_sub, nat_abs_parts, size_mul}
use Rattle.numbers.proofs.Ring.{ring}
use Rattle.numbers.proofs.SumLaws.{sum_below_zero, sum_below_suc, weighted_sum_nil, weighted_sum_cons}
use Rattle.numbers.specs.Tabulate.{tabulate, Holds}
use Rattle.numbers.proofs.TabulateLaws.{length_tabulate, tabulate_ext, get_d_unfilled}
use Rattle.function.specs.Function.{level}
use Rattle.function.specs.Gate.{distance}
use Rattle.types.specs.declared.vector.Vector.{Vector}
use Rattle.function.specs.Vector.{sign, add_levels, corrected_by}
use Rattle.function.proofs.VectorLaws.{corrected_weights, corrected_threshold}
use Rattle.lanes.specs.Sums.{place_sum, vector_sums}
use Rattle.lanes.specs.Codes.{row_code}
use Rattle.lanes.proofs.SumsLaws.{sums_at, place_low, place_high}
use Rattle.correction.specs.Steps.{shared, step_at}
use Rattle.correction.proofs.SharedLaws.{both, both_low, both_high, shared_most}
use Rattle.correction.proofs.Entries.{tabulate_add}

-- ---- a correction of the weights

-- the first term of a sum, and those behind it
sum_below_first : (m : ℕ) (f : ℕ → ℕ) → sum_below (suc m) f ≡ f 0 + sum_below m (λ p. f (suc p))
sum_below_first zero f = omega (arith, sum_below_suc 0 f, sum_below_zero f, sum_below_zero (λ p. f (suc p)))
sum_below_first (suc m) f =
    omega (arith, sum_below_suc (suc m) f, sum_below_first m f, sum_below_suc m (λ p. f (suc p)))

-- the two products with z, put together
grouped : (l k n x s z : ℤ) → k *ℤ (x +ℤ l *ℤ z) +ℤ (s +ℤ n *ℤ z) ≡ k *ℤ x +ℤ s +ℤ (l *ℤ k +ℤ n) *ℤ z
grouped l k n x s z = simp ring

-- weights that were added z times their levels have, at other levels, z more for each product of the two levels
weighted_sum_levels : (z : ℤ) (l k : ℕ → ℕ) (xs : List ℤ)
    → weighted_sum (add_levels z l xs) k ≡ weighted_sum xs k +ℤ pos (sum_below (length xs) (λ p. l p * k p)) *ℤ z
unfolding add_levels
weighted_sum_levels z l k [] = rw (weighted_sum_nil k, sum_below_zero (λ p. l p * k p), zero-*ℤ)
weighted_sum_levels z l k (x ∷ xs) =
    let rest = sum_below (length xs) (λ p. l (suc p) * k (suc p)) in
    weighted_sum_cons (x +ℤ pos (l 0) *ℤ z) (add_levels z (λ p. l (suc p)) xs) k
    ∙ ap (λ (s : ℤ). pos (k 0) *ℤ (x +ℤ pos (l 0) *ℤ z) +ℤ s) (weighted_sum_levels z (λ p. l (suc p)) (λ p. k (suc p)) xs)
    ∙ grouped (pos (l 0)) (pos (k 0)) (pos rest) x (weighted_sum xs (λ p. k (suc p))) z
    ∙ ap₂ (λ (s : ℤ) (n : ℕ). s +ℤ pos n *ℤ z) (sym (weighted_sum_cons x xs k)) (sym (sum_below_first (length xs) (λ p. l p * k p)))

-- ---- the table of steps

-- an entry, by the parts of its number
step_of : (i r q : ℕ) (y : Bool) → i / 32 / 2 ≡ r → i % 32 ≡ q → eqb (i / 32 % 2) 1 ≡ y → step_at i ≡ pos (shared r q + 1) *ℤ sign y
unfolding step_at
step_of i r q y e f g = rw (e, f, g)

-- the entry of a code and a row: the inputs that the code's row shares with it and one more, signed
step_at_lem : (y : Bool) (r q : ℕ) → q < 32 → step_at (row_code y r * 32 + q) ≡ pos (shared r q + 1) *ℤ sign y
step_at_lem true r q h =
    let i = row_code true r * 32 + q in
    step_of i r q true (omega arith) (omega arith) (eq-eqb (i / 32 % 2) 1 (omega arith))
step_at_lem false r q h =
    let i = row_code false r * 32 + q in
    step_of i r q false (omega arith) (omega arith) (ne_eqb (i / 32 % 2) 1 (omega arith))

-- the codes of the row's low inputs, and of its higher ones
code_low : (y : Bool) (r : ℕ) → row_code y r % 64 ≡ row_code y (r % 32)
code_low true r = omega arith
code_low false r = omega arith

code_high : (y : Bool) (r : ℕ) → row_code y r / 64 * 2 + row_code y r % 2 ≡ row_code y (r / 32)
code_high true r = omega arith
code_high false r = omega arith

-- ---- the sums

-- a sum of the weights has the sign more for each input that the rows share
corrected_sum : (y : Bool) (r q : ℕ) (v : Vector) → length v.a ≡ 8
    → weighted_sum (corrected_by y (level 2 r) v).a (level 2 q) ≡ weighted_sum v.a (level 2 q) +ℤ pos (both r q) *ℤ sign y
corrected_sum y r q v eight =
    ap (λ (l : List ℤ). weighted_sum l (level 2 q)) (corrected_weights y (level 2 r) v)
    ∙ weighted_sum_levels (sign y) (level 2 r) (level 2 q) v.a
    ∙ ap (λ (n : ℕ). weighted_sum v.a (level 2 q) +ℤ pos (sum_below n (λ p. level 2 r p * level 2 q p)) *ℤ sign y) eight

-- b changes by the sign besides
with_threshold : (s n b z : ℤ) → s +ℤ n *ℤ z -ℤ (b -ℤ z) ≡ s -ℤ b +ℤ (n +ℤ pos 1) *ℤ z
with_threshold s n b z = simp ring

-- a distance is added a step
pub corrected_low : (y : Bool) (r q : ℕ) (v : Vector) → length v.a ≡ 8 → q < 32
    → place_sum (corrected_by y (level 2 r) v) q ≡ place_sum v q +ℤ step_at (row_code y r % 64 * 32 + q)
unfolding distance
corrected_low y r q v eight h =
    let w = corrected_by y (level 2 r) v in
    let n = shared (r % 32) q in
    let sum = weighted_sum v.a (level 2 q) in
    let entry = ap (λ (c : ℕ). step_at (c * 32 + q)) (code_low y r) ∙ step_at_lem y (r % 32) q h in
    place_low w q h
    ∙ ap₂ ◌-ℤ◌ (corrected_sum y r q v eight ∙ ap (λ (m : ℕ). sum +ℤ pos m *ℤ sign y) (both_low r q h)) (corrected_threshold y (level 2 r) v)
    ∙ with_threshold sum (pos n) v.b (sign y)
    ∙ sym (ap₂ ◌+ℤ◌ (place_low v q h) entry)

-- of which a sum without b has not b's part
without_threshold : (s n z : ℤ) → s +ℤ n *ℤ z ≡ s +ℤ (n +ℤ pos 1) *ℤ z -ℤ z
without_threshold s n z =
    taken (s +ℤ n *ℤ z) ∙ ap (λ (x : ℤ). x -ℤ z) one_more_lem
  where
    taken : (x : ℤ) → x ≡ x +ℤ z -ℤ z
    taken x = omega (integers, parts_add x z, parts_sub (x +ℤ z) z)

    one_more_lem : s +ℤ n *ℤ z +ℤ z ≡ s +ℤ (n +ℤ pos 1) *ℤ z
    one_more_lem = simp ring

-- a higher inputs' sum is added a step, less the sign
pub corrected_high : (y : Bool) (r h : ℕ) (v : Vector) → length v.a ≡ 8 → h < 8
    → place_sum (corrected_by y (level 2 r) v) (32 + h) ≡ place_sum v (32 + h) +ℤ step_at ((row_code y r / 64 * 2 + row_code y r % 2) * 32 + h) -ℤ sign y
corrected_high y r h v eight l =
    let w = corrected_by y (level 2 r) v in
    let n = shared (r / 32) h in
    let sum = weighted_sum v.a (level 2 (32 * h)) in
    let entry = ap (λ (c : ℕ). step_at (c * 32 + h)) (code_high y r) ∙ step_at_lem y (r / 32) h (omega arith) in
    place_high w h
    ∙ corrected_sum y r (32 * h) v eight
    ∙ ap (λ (m : ℕ). sum +ℤ pos m *ℤ sign y) (both_high r h l)
    ∙ without_threshold sum (pos n) (sign y)
    ∙ sym (ap₂ (λ (s x : ℤ). s +ℤ x -ℤ sign y) (place_high v h) entry)

-- ---- the sums as code makes them

-- so many entries of the table of steps from a place on
abbrev pub part : (from count : ℕ) → List ℤ → List ℤ
part from count steps = take (from + count - from) (drop from steps)

-- they have their steps
part_at : (steps : List ℤ) (from count q : ℕ) → Holds step_at 2048 steps → from + count ≤ 2048 → q < count
    → get_or (part from count steps) q (pos 0) ≡ step_at (from + q)
part_at steps from count q holds h l =
    let size : from + count - from ≡ count = omega arith in
    ap (λ (n : ℕ). get_or (take n (drop from steps)) q (pos 0)) size
    ∙ get_or-take count (drop from steps) q (pos 0) l
    ∙ get_or-drop from steps q (pos 0)
    ∙ holds (from + q) (omega arith)

-- a sign keeps the size
signed_size : (n : ℕ) (y : Bool) → nat_abs (pos n *ℤ sign y) ≡ n
signed_size n true = omega (arith, nat_abs_parts (pos n *ℤ pos 1), size_mul (pos n) (pos 1))
signed_size n false = omega (arith, nat_abs_parts (pos n *ℤ negsuc 0), size_mul (pos n) (negsuc 0))

-- a step is at most 6 in size
step_size : (i : ℕ) → nat_abs (step_at i) ≤ 6
unfolding step_at
step_size i =
    let n = shared (i / 32 / 2) (i % 32) in
    omega (arith, signed_size (n + 1) (eqb (i / 32 % 2) 1), shared_most (i / 32 / 2) (i % 32))

-- and so is each entry read
pub part_size : (steps : List ℤ) (from count q : ℕ) → Holds step_at 2048 steps → from + count ≤ 2048 → q < count
    → nat_abs (get_or (part from count steps) q (pos 0)) ≤ 6
part_size steps from count q holds h l = rw (part_at steps from count q holds h l) (step_size (from + q))

module _ (y : Bool) (r code : ℕ) (v : Vector) (steps : List ℤ) (eight : length v.a ≡ 8) (bound : code < 512) (is : code ≡ row_code y r)
    (holds : Holds step_at 2048 steps)
  where
    -- what the code adds to a low place, and to a higher one
    abbrev low_step : ℕ → ℤ
    low_step q = get_or (part (code % 64 * 32) 32 steps) q (pos 0)

    abbrev high_step : ℕ → ℤ
    high_step h = get_or (part ((code / 64 * 2 + code % 2) * 32) 8 steps) h (pos 0)

    -- the sums that it makes are the corrected vector's
    abbrev low : ℕ → ℤ
    low q = get_or (vector_sums v) q (pos 0) +ℤ low_step q

    low_is : (q : ℕ) → q < 32 → low q ≡ place_sum (corrected_by y (level 2 r) v) q
    low_is q h =
        ap₂ ◌+ℤ◌ (sums_at v q (omega arith))
        (part_at steps (code % 64 * 32) 32 q holds (omega arith) h ∙ ap (λ (c : ℕ). step_at (c % 64 * 32 + q)) is)
        ∙ sym (corrected_low y r q v eight h)

    high_is : (h : ℕ) → h < 8 → get_or (vector_sums v) (32 + h) (pos 0) +ℤ high_step h -ℤ sign y ≡ place_sum (corrected_by y (level 2 r) v) (32 + h)
    high_is h l =
        ap₂ (λ (s x : ℤ). s +ℤ x -ℤ sign y) (sums_at v (32 + h) (omega arith))
        (part_at steps ((code / 64 * 2 + code % 2) * 32) 8 h holds (omega arith) l
        ∙ ap (λ (c : ℕ). step_at ((c / 64 * 2 + c % 2) * 32 + h)) is)
        ∙ sym (corrected_high y r h v eight l)

    module _ (half : List ℤ) (e : half ≡ tabulate 32 low ++ drop 32 (vector_sums v)) where
      -- once the low places are corrected, the higher ones are as they came
      kept : (h : ℕ) → get_or half (32 + h) (pos 0) ≡ get_or (vector_sums v) (32 + h) (pos 0)
      kept h = ap (λ (l : List ℤ). get_or l (32 + h) (pos 0)) e ∙ get_d_unfilled low (vector_sums v) 32 h (pos 0)

      -- and the steps that are added to these complete the correction
      pub corrected_sums : take 32 half ++ tabulate 8 (λ h. get_or half (32 + h) (pos 0) +ℤ high_step h -ℤ sign y)
          ≡ vector_sums (corrected_by y (level 2 r) v)
      unfolding vector_sums
      corrected_sums =
          let w = corrected_by y (level 2 r) v in
          let first = take_at (tabulate 32 low) (drop 32 (vector_sums v)) 32 (length_tabulate low 32) in
          ap₂ ◌++◌ (ap (take 32) e ∙ first ∙ tabulate_ext low (place_sum w) 32 low_is)
          (tabulate_ext (λ h. get_or half (32 + h) (pos 0) +ℤ high_step h -ℤ sign y) (λ h. place_sum w (32 + h)) 8
          (λ h l. ap (λ (x : ℤ). x +ℤ high_step h -ℤ sign y) (kept h) ∙ high_is h l))
          ∙ sym (tabulate_add (place_sum w) 32 8)
