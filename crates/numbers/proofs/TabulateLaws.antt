-- Laws of `tabulate`, the list of a function's values: its length and elements, two lists that are equal, and the loop that fills an
-- array from the front: after i stores the array is `filled f old i`. Assumes nothing.
use mathlib.Core.Path.{◌≡◌, refl, sym, ◌∙◌, ap, ap₂}
use mathlib.Core.List.{List, [], ◌∷◌, ◌++◌, append-nil, append_assoc}
use mathlib.Core.Logic.{⊎_elim}
use Prim.Native.Nat.{ℕ, zero, suc, ◌+◌, ◌-◌, ◌<◌, ◌≤◌}
use native.Mathlib.Nat.{eq-or-lt_of_le, le_of_suc-le-suc}
use native.Mathlib.Numerals.{add-one}
use native.Mathlib.Omega.{arith}
use lib.ListN.{length, get_or, set, drop, replicate, length-append, length-drop, length-replicate, drop_of_length-le, replicate-append-replicate, get_or-append}
use lib.Seq.{drop_at, drop-cons, set_at, get_or_at, get_or-drop, get_or-append-add, ext_get_or}
use Rattle.numbers.specs.Tabulate.{tabulate}

-- the array `old` after a loop has stored f at each index below i
abbrev pub filled : {A : Type 0} → (ℕ → A) → List A → ℕ → List A
filled f old i = tabulate i f ++ drop i old

module _ {A : Type 0} (f : ℕ → A) where
  -- there are m values
  pub length_tabulate : (m : ℕ) → length (tabulate m f) ≡ m
  unfolding tabulate
  length_tabulate zero = refl
  length_tabulate (suc m) = omega (arith, length-append (tabulate m f) (f m ∷ []), length_tabulate m)

  -- each element is the function's value
  pub get_d_tabulate : (m i : ℕ) (d : A) → i < m → get_or (tabulate m f) i d ≡ f i
  unfolding tabulate
  get_d_tabulate zero i d h = absurd (omega arith)
  get_d_tabulate (suc m) i d h =
      let n = length_tabulate m in
      ⊎_elim (λ same. get_or_at (tabulate m f) (f m) [] d i (n ∙ sym same) ∙ ap f (sym same))
      (λ below. get_or-append (tabulate m f) (f m ∷ []) d i (omega arith) ∙ get_d_tabulate m i d below)
      (eq-or-lt_of_le (le_of_suc-le-suc h))

  -- a list of m elements, each the function's value, is the list of the values
  pub tabulate_get_d : (m : ℕ) (d : A) (l : List A) → length l ≡ m → ((i : ℕ) → i < m → get_or l i d ≡ f i) → l ≡ tabulate m f
  tabulate_get_d m d l n h =
      ext_get_or d l (tabulate m f) (n ∙ sym (length_tabulate m)) (λ i k. h i (omega arith) ∙ sym (get_d_tabulate m i d (omega arith)))

  -- with nothing stored it is the old array
  pub filled_none : (old : List A) → old ≡ filled f old 0
  unfolding tabulate
  filled_none old = refl

  filled_suc : (old : List A) (i : ℕ) → i < length old → set (filled f old i) i (f i) ≡ filled f old (suc i)
  unfolding tabulate
  filled_suc old i h =
      ap (λ (l : List A). set (tabulate i f ++ l) i (f i)) (drop-cons old i (f i) h)
      ∙ set_at (tabulate i f) (get_or old i (f i)) (drop (suc i) old) (f i) i (length_tabulate i)
      ∙ sym (append_assoc (tabulate i f) (f i ∷ []) (drop (suc i) old))

  -- a store of f i at i is one store more
  pub filled_more : {l : List A} {x : A} (old : List A) (i : ℕ) → i < length old → l ≡ filled f old i → x ≡ f i → set l i x ≡ filled f old (i + 1)
  filled_more old i h e k = rw (e, k, add-one) (filled_suc old i h)

  -- with all stored it is the list of the values
  pub filled_all : {l : List A} (old : List A) (i m : ℕ) → i ≡ m → length old ≤ m → l ≡ filled f old i → l ≡ tabulate m f
  filled_all old i m all h e =
      e
      ∙ ap (filled f old) all
      ∙ ap (λ (l : List A). tabulate m f ++ l) (drop_of_length-le old h)
      ∙ append-nil (tabulate m f)

  -- where nothing is stored yet, it has the old elements
  pub get_d_unfilled : (old : List A) (m i : ℕ) (d : A) → get_or (filled f old m) (m + i) d ≡ get_or old (m + i) d
  get_d_unfilled old m i d =
      ap (λ (n : ℕ). get_or (filled f old m) (n + i) d) (sym (length_tabulate m))
      ∙ get_or-append-add (tabulate m f) (drop m old) i d
      ∙ get_or-drop m old i d

  -- a store keeps the length
  pub length_filled : (old : List A) (i : ℕ) → i ≤ length old → length (filled f old i) ≡ length old
  length_filled old i h = omega (arith, length-append (tabulate i f) (drop i old), length_tabulate i, length-drop i old)

-- functions that agree below m have the same values
pub tabulate_ext : {A : Type 0} (f g : ℕ → A) (m : ℕ) → ((i : ℕ) → i < m → f i ≡ g i) → tabulate m f ≡ tabulate m g
unfolding tabulate
tabulate_ext f g zero h = refl
tabulate_ext {A} f g (suc m) h =
    ap₂ (λ (l : List A) (x : A). l ++ (x ∷ [])) (tabulate_ext f g m (λ i k. h i (omega arith))) (h m (omega arith))

-- what is behind the first m of n equal elements
pub drop_replicate : {A : Type 0} (m n : ℕ) (a : A) → m ≤ n → drop m (replicate n a) ≡ replicate (n - m) a
drop_replicate m n a h =
    let both : m + (n - m) ≡ n = omega arith in
    ap (λ (k : ℕ). drop m (replicate k a)) (sym both)
    ∙ ap (drop m) (sym (replicate-append-replicate m (n - m) a))
    ∙ drop_at (replicate m a) (replicate (n - m) a) m (length-replicate m a)
