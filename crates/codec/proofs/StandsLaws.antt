-- Bytes that stand at a position of others: taken apart, joined, and read one at a time. Assumes nothing.
use mathlib.Core.Path.{◌≡◌, refl, sym, ap, ◌∙◌}
use mathlib.Core.List.{List, [], ◌∷◌, ◌++◌, append_assoc, append-nil}
use Prim.Native.Nat.{ℕ, suc, ◌+◌, ◌-◌, ◌≤◌, ◌<◌}
use native.Mathlib.Nat.{add-zero}
use native.Mathlib.Omega.{arith}
use lib.ListN.{length, get_or, drop, length-append, length-drop}
use lib.Seq.{drop-append_seam, drop-cons, drop-drop, get_or-drop}

-- the bytes w stand at a position of s
abbrev pub Stands : List ℕ → ℕ → List ℕ → Type 0
Stands s at w = (rest : List ℕ) × (drop at s ≡ w ++ rest)

-- every element is a byte
abbrev pub AllBytes : List ℕ → Type 0
AllBytes s = (i : ℕ) → i < length s → get_or s i 0 < 256

-- no bytes stand anywhere
pub stands_nil : (s : List ℕ) (at : ℕ) → Stands s at []
stands_nil s at = (drop at s, refl)

-- bytes stand at their own start
pub stands_self : (w : List ℕ) → Stands w 0 w
stands_self w = ([], sym (append-nil w))

module _ (s : List ℕ) (at : ℕ) where
  -- the length of what is left at a position
  left : (w : List ℕ) (t : Stands s at w) → length s - at ≡ length w + length t.0
  left w (rest, e) = sym (length-drop at s) ∙ ap length e ∙ length-append w rest

  -- the front of bytes stands where they do
  pub stands_front : (x y : List ℕ) → Stands s at (x ++ y) → Stands s at x
  stands_front x y (rest, e) = (y ++ rest, e ∙ append_assoc x y rest)

  -- and the back where the front ends
  pub stands_back : (x y : List ℕ) → Stands s at (x ++ y) → Stands s (at + length x) y
  stands_back x y (rest, e) =
      (rest, sym (drop-drop (length x) at s) ∙ ap (drop (length x)) (e ∙ append_assoc x y rest) ∙ drop-append_seam x (y ++ rest))

  -- bytes that stand where others end stand joined
  pub stands_join : (x y : List ℕ) → Stands s at x → Stands s (at + length x) y → Stands s at (x ++ y)
  stands_join x y (r, e) (q, d) =
      let back : r ≡ y ++ q = sym (drop-append_seam x r) ∙ ap (drop (length x)) (sym e) ∙ drop-drop (length x) at s ∙ d in
      (q, e ∙ ap (λ (l : List ℕ). x ++ l) back ∙ sym (append_assoc x y q))

  -- the first of bytes that stand somewhere is the byte there
  pub stands_head : (b : ℕ) (w : List ℕ) → Stands s at (b ∷ w) → (at < length s) × (get_or s at 0 ≡ b)
  stands_head b w t = (omega (arith, left (b ∷ w) t), rw add-zero at (sym (get_or-drop at s 0 0) ∙ ap (λ (l : List ℕ). get_or l 0 0) t.1))

  -- a byte within stands at its position
  pub stands_byte : at < length s → Stands s at (get_or s at 0 ∷ [])
  stands_byte h = (drop (suc at) s, drop-cons s at 0 h)

  -- bytes that stand within end within
  pub stands_within : (w : List ℕ) → at ≤ length s → Stands s at w → at + length w ≤ length s
  stands_within w h t = omega (arith, left w t)

-- the position after two fields
pub after_both : (at : ℕ) (x y : List ℕ) → at + length x + length y ≡ at + length (x ++ y)
after_both at x y = omega (arith, length-append x y)

-- two fields, the second from where the first ended, stand joined, and end where the second does
pub both_stand : (s : List ℕ) (at : ℕ) (x y : List ℕ) {middle next : ℕ} → Stands s at x → middle ≡ at + length x → Stands s middle y
    → next ≡ middle + length y → Stands s at (x ++ y) × (next ≡ at + length (x ++ y))
both_stand s at x y front p back q = (stands_join s at x y front (rw p at back), omega (arith, after_both at x y))

-- a list that has no length is empty
none_left : (l : List ℕ) → length l ≡ 0 → l ≡ []
none_left [] e = refl
none_left (x ∷ l) e = absurd (omega arith)

-- bytes that stand at the start of others no longer than they are all of them
pub stands_whole : (s w : List ℕ) → Stands s 0 w → length s ≤ length w → s ≡ w
stands_whole s w (rest, e) h =
    let none : rest ≡ [] = none_left rest (omega (arith, left s 0 w (rest, e))) in
    e ∙ ap (λ (l : List ℕ). w ++ l) none ∙ append-nil w
