-- Laws of rows and their levels, in any base: levels are digits, so they are below the base, and 0 from the last place on; a row that is raised
-- at a place has the same levels and one more there, and is a row if the level is below the top. By induction on the place, through the
-- row divided by the base. Assumes nothing.
use mathlib.Core.Path.{◌≡◌, sym, ◌∙◌, ap}
use mathlib.Core.Logic.{◌≢◌}
use mathlib.Core.Bool.{true, false}
use Prim.Native.Nat.{ℕ, zero, suc, ◌+◌, ◌*◌, ◌/◌, ◌%◌, ◌^◌, ◌≤◌, ◌<◌}
use native.Mathlib.Nat.{pow-zero, pow-suc, pow-succ', pow-le-pow_right, div-one, div-eq_of_lt, div-lt_iff_lt-mul, lt_of_lt_of_le, mod-lt, mod-eq_of_lt, mod-add-div', add-mul-div_right, add-mul-mod_self_right, div-div-eq-div-mul, add-zero}
use native.Mathlib.Omega.{arith}
use Rattle.numbers.proofs.TestLaws.{no_true}
use Rattle.function.specs.Function.{Function, level}

-- 1 at a place, and 0 at the others
abbrev pub unit : ℕ → ℕ → ℕ
unit zero zero = 1
unit zero (suc other) = 0
unit (suc place) zero = 0
unit (suc place) (suc other) = unit place other

module _ (top : ℕ) where
  -- a level is below the base
  pub level_below : (r place : ℕ) → level (suc top) r place < suc top
  level_below r place = mod-lt (r / suc top ^ place) (omega arith)

  -- a place past those of a row has level 0
  pub level_none : {n : ℕ} (r place : ℕ) → r < suc top ^ n → n ≤ place → level (suc top) r place ≡ 0
  level_none r place h k =
      ap (λ (x : ℕ). x % suc top) (div-eq_of_lt (lt_of_lt_of_le h (pow-le-pow_right (omega arith) k))) ∙ mod-eq_of_lt (omega arith)

  -- the first level is the rest by the base
  level_first : (r : ℕ) → level (suc top) r 0 ≡ r % suc top
  level_first r = ap (λ (x : ℕ). x % suc top) (ap (λ (x : ℕ). r / x) (pow-zero (suc top)) ∙ div-one r)

  -- levels after the first are those of the row divided by the base
  level_next : (r place : ℕ) → level (suc top) r (suc place) ≡ level (suc top) (r / suc top) place
  level_next r place =
      ap (λ (x : ℕ). x % suc top)
      (ap (λ (x : ℕ). r / x) (pow-succ' (suc top) place) ∙ sym (div-div-eq-div-mul r (suc top) (suc top ^ place)))

  -- a row with its first level raised
  next_row : (r : ℕ) → r + 1 ≡ r % suc top + 1 + r / suc top * suc top
  next_row r = omega (arith, mod-add-div' r (suc top))

  next_rest : (r : ℕ) → r % suc top < top → (r + 1) % suc top ≡ r % suc top + 1
  next_rest r e =
      ap (λ (x : ℕ). x % suc top) (next_row r) ∙ add-mul-mod_self_right (r % suc top + 1) (r / suc top) (suc top) ∙ mod-eq_of_lt (omega arith)

  next_high : (r : ℕ) → r % suc top < top → (r + 1) / suc top ≡ r / suc top
  next_high r e =
      ap (λ (x : ℕ). x / suc top) (next_row r)
      ∙ add-mul-div_right (r % suc top + 1) (r / suc top) {z = suc top} (omega arith)
      ∙ ap (λ (x : ℕ). x + r / suc top) (div-eq_of_lt {n = r % suc top + 1} {m = suc top} (omega arith))
      ∙ omega arith

  -- one with a later level raised
  later_high : (r place : ℕ) → (r + suc top ^ suc place) / suc top ≡ r / suc top + suc top ^ place
  later_high r place =
      ap (λ (x : ℕ). (r + x) / suc top) (pow-suc (suc top) place) ∙ add-mul-div_right r (suc top ^ place) {z = suc top} (omega arith)

  -- a row that is raised at a place has the same levels, and one more there
  pub raised_level : (place other r : ℕ) → level (suc top) r place < top
      → level (suc top) (r + suc top ^ place) other ≡ level (suc top) r other + unit place other
  raised_level zero zero r e =
      level_first (r + suc top ^ 0)
      ∙ ap (λ (x : ℕ). (r + x) % suc top) (pow-zero (suc top))
      ∙ next_rest r (rw (level_first r) at e)
      ∙ ap (λ (x : ℕ). x + 1) (sym (level_first r))
  raised_level zero (suc other) r e =
      level_next (r + suc top ^ 0) other
      ∙ ap (λ (x : ℕ). level (suc top) ((r + x) / suc top) other) (pow-zero (suc top))
      ∙ ap (λ (x : ℕ). level (suc top) x other) (next_high r (rw (level_first r) at e))
      ∙ sym (level_next r other)
      ∙ sym (add-zero (level (suc top) r (suc other)))
  raised_level (suc place) zero r e =
      level_first (r + suc top ^ suc place)
      ∙ ap (λ (x : ℕ). (r + x) % suc top) (pow-suc (suc top) place)
      ∙ add-mul-mod_self_right r (suc top ^ place) (suc top)
      ∙ sym (level_first r)
      ∙ sym (add-zero (level (suc top) r 0))
  raised_level (suc place) (suc other) r e =
      level_next (r + suc top ^ suc place) other
      ∙ ap (λ (x : ℕ). level (suc top) x other) (later_high r place)
      ∙ raised_level place other (r / suc top) (rw (level_next r place) at e)
      ∙ ap (λ (x : ℕ). x + unit place other) (sym (level_next r other))

  -- a row below so many divided by the base, and back
  high_below : (r m : ℕ) → r < suc top ^ suc m → r / suc top < suc top ^ m
  high_below r m h = (div-lt_iff_lt-mul {k = suc top} (omega arith)).1 (rw (pow-suc (suc top) m) at h)

  below_high : (r m : ℕ) → r / suc top < suc top ^ m → r < suc top ^ suc m
  below_high r m h = rw (pow-suc (suc top) m) ((div-lt_iff_lt-mul {k = suc top} (omega arith)).0 h)

  -- a row that is raised at one of its places, where its level is below the top, is a row
  pub raised_below : (n r place : ℕ) → place < n → level (suc top) r place < top → r < suc top ^ n → r + suc top ^ place < suc top ^ n
  raised_below zero r place k e h = absurd (omega arith)
  raised_below (suc m) r zero k e h =
      below_high (r + suc top ^ 0) m
      (rw (pow-zero (suc top), next_high r (rw (level_first r) at e)) (high_below r m h))
  raised_below (suc m) r (suc place) k e h =
      below_high (r + suc top ^ suc place) m
      (rw (later_high r place) (raised_below m (r / suc top) place (omega arith) (rw (level_next r place) at e) (high_below r m h)))

-- a row that is cared for is not one that is not
pub cared_apart : (f : Function) {q r : ℕ} → f.cared q ≡ false → f.cared r ≡ true → q ≢ r
cared_apart f free cares e = no_true (sym free ∙ ap f.cared e ∙ cares)
