-- Fields written into a buffer at a position: one behind another, some in turn as a loop writes them, and those that are stored byte by
-- byte, copied in, empty, or written into the rest of the buffer. Assumes nothing.
use mathlib.Core.Path.{◌≡◌, sym, ◌∙◌, ap}
use mathlib.Core.List.{List, [], ◌∷◌, ◌++◌, append_assoc, append-nil}
use Prim.Native.Nat.{ℕ, zero, suc, ◌+◌, ◌-◌, ◌*◌, ◌≤◌, ◌<◌}
use native.Mathlib.Nat.{add-zero, zero-add, suc-add, add_assoc}
use native.Mathlib.Numerals.{add-one}
use native.Mathlib.Omega.{arith}
use lib.ListN.{length, take, drop, set, length-append, length-drop, take-append-drop, drop_of_length-le}
use lib.Seq.{length-take-le, take_all, take_at, drop_at, drop-drop, sets, sets-eq, paste}
use Rattle.codec.specs.Written.{written_at, Room, Put}

-- a field in its room leaves the buffer as long as it was
pub written_length : (old : List ℕ) (at : ℕ) (w : List ℕ) → Room old at w → length (written_at old at w) ≡ length old
written_length old at w h =
    let room : at ≤ length old = omega arith in
    rw (length-append, length-append, length-take-le at old, length-drop) (omega arith)

-- what stands before the position behind a field, and what from there on
written_split : (old : List ℕ) (at : ℕ) (w : List ℕ) → at ≤ length old
    → (take (at + length w) (written_at old at w) ≡ take at old ++ w) × (drop (at + length w) (written_at old at w) ≡ drop (at + length w) old)
written_split old at w h =
    let next = at + length w in
    let long : length (take at old ++ w) ≡ next = rw (length-append, length-take-le at old) in
    rw (← append_assoc (take at old) w (drop next old)) (take_at (take at old ++ w) (drop next old) next long, drop_at (take at old ++ w) (drop next old) next long)

-- a field and the one after it, written in turn, are both written
pub written_on : (old : List ℕ) (at : ℕ) (x y : List ℕ) → Room old at (x ++ y)
    → written_at (written_at old at x) (at + length x) y ≡ written_at old at (x ++ y)
written_on old at x y h =
    let next = at + length x in
    let parts = written_split old at x (omega arith) in
    let after = sym (drop-drop (length y) next (written_at old at x)) ∙ ap (drop (length y)) parts.1 ∙ drop-drop (length y) next old in
    rw (parts.0, after) (simp (length-append, add_assoc, append_assoc))

module _ (old : List ℕ) (at : ℕ) (x y : List ℕ) (h : Room old at (x ++ y)) where
  -- where there is room for two fields and the first is written, there is room for the second
  pub written_room : {out : List ℕ} {here : ℕ} → Put old at x out here → Room out here y
  written_room p =
      let both = length-append x y in
      omega (arith, ap length p.1, written_length old at x (omega arith))

  -- the second, written behind the first
  pub written_next : {out last : List ℕ} {here next : ℕ} → Put old at x out here → Put out here y last next → Put old at (x ++ y) last next
  written_next p q = (omega (arith, length-append x y), q.1 ∙ rw (p.1, p.0) (written_on old at x y h))

-- ---- fields in turn: m of them are `all m`, and the next is `one m`

module _ (all one : ℕ → List ℕ) (step : (m : ℕ) → all (m + 1) ≡ all m ++ one m) where
  longer : (m : ℕ) → length (all (suc m)) ≡ length (all m) + length (one m)
  longer m = rw (← add-one m, step m, length-append)

  -- the first of them take no more bytes than all
  first_few : (d m : ℕ) → length (all m) ≤ length (all (d + m))
  first_few zero m = rw zero-add (omega arith)
  first_few (suc d) m = rw suc-add (omega (arith, longer (d + m), first_few d m))

  -- where each takes at most k bytes, m of them take at most k * m
  pub turns_most : (k : ℕ) → all 0 ≡ [] → ((m : ℕ) → length (one m) ≤ k) → (m : ℕ) → length (all m) ≤ k * m
  turns_most k none h zero = rw none (omega arith)
  turns_most k none h (suc m) = omega (arith, longer m, h m, turns_most k none h m)

  module _ (n : ℕ) (old : List ℕ) (at : ℕ) (fits : Room old at (all n)) (m : ℕ) (h : m < n) where
    room_for_next : Room old at (all m ++ one m)
    room_for_next =
        let rest : n - suc m + suc m ≡ n = omega arith in
        omega (arith, length-append (all m) (one m), longer m, first_few (n - suc m) (suc m), ap (λ (k : ℕ). length (all k)) rest)

    -- in a buffer with room for n, of which m are written, there is room for the next
    pub next_room : {out : List ℕ} {here : ℕ} → Put old at (all m) out here → Room out here (one m)
    next_room p = written_room old at (all m) (one m) room_for_next p

    -- with it one more is written
    pub next_written : {out last : List ℕ} {here next : ℕ} → Put old at (all m) out here → Put out here (one m) last next
        → Put old at (all (m + 1)) last next
    next_written p q = rw (step m) (written_next old at (all m) (one m) room_for_next p q)

-- ---- other ways to write a field

-- bytes that are stored one behind the other are a field
pub written_all : (old : List ℕ) (at : ℕ) (w : List ℕ) → at + length w ≤ length old → sets old at w ≡ written_at old at w
written_all old at w h = sets-eq w old at h ∙ append_assoc (take at old) w (drop (at + length w) old)

-- and so is one byte
pub written_one : (old : List ℕ) (at b : ℕ) → at < length old → set old at b ≡ written_at old at (b ∷ [])
written_one old at b h = written_all old at (b ∷ []) (omega arith)

-- the first m of other bytes, copied in
pub written_copy : (old : List ℕ) (at : ℕ) (s : List ℕ) (m : ℕ) → m ≤ length s → paste old at s m ≡ written_at old at (take m s)
written_copy old at s m h = rw (length-take-le m s) (append_assoc (take at old) (take m s) (drop (at + m) old))

-- no bytes leave the buffer as it was
pub written_nil : (old : List ℕ) (at : ℕ) → written_at old at [] ≡ old
written_nil old at = rw add-zero (take-append-drop at old)

-- what a callee wrote at the start of the part from p on, said of the whole buffer. (The part that is lent is
-- take (length old - p) (drop p old))
pub part_written : (old ys w : List ℕ) (p : ℕ) → p ≤ length old → ys ≡ written_at (take (length old - p) (drop p old)) 0 w
    → take p old ++ (ys ++ drop (length old - p) (drop p old)) ≡ written_at old p w
part_written old ys w p h e =
    let full : length (drop p old) ≤ length old - p = rw length-drop (omega arith) in
    let rest : ys ≡ w ++ drop (p + length w) old = e ∙ rw (take_all (length old - p) (drop p old) full, zero-add, drop-drop) in
    rw (drop_of_length-le (drop p old) {i = length old - p} full, append-nil, rest)

module _ (old : List ℕ) (at : ℕ) (x y : List ℕ) (h : Room old at (x ++ y)) {out : List ℕ} {here : ℕ} (p : Put old at x out here) where
  -- where the first of two fields is written, the rest of the buffer has room for the second
  pub written_rest : length y ≤ length (take (length out - here) (drop here out))
  written_rest = rw (length-take-le (length out - here) (drop here out) (omega (arith, length-drop here out))) (omega (arith, written_room old at x y h p))

  -- once it is written there, it stands behind the first
  pub written_part : {size : ℕ} {part : List ℕ} → Put (take (length out - here) (drop here out)) 0 y part size
      → Put old at (x ++ y) (take here out ++ (part ++ drop (length out - here) (drop here out))) (here + size)
  written_part (e, b) = written_next old at x y h p (omega arith, part_written out _ y here (omega (arith, written_room old at x y h p)) b)
