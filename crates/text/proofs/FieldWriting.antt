-- A text that is written into a buffer field by field: at each position the bytes that are left to write, the room for them, and that with
-- them the whole text is written. Assumes nothing.
use mathlib.Core.List.{List, ◌++◌}
use Prim.Native.Nat.{ℕ, ◌+◌, ◌≤◌}
use native.Mathlib.Omega.{arith}
use lib.ListN.{length, length-append}
use Rattle.codec.specs.Written.{Put}
use Rattle.codec.proofs.WrittenLaws.{written_room, written_next}

-- a text w goes into `old` at a position: `out` has its first bytes, and the rest is left to write from `here` on
pub record Left (old : List ℕ) (at : ℕ) (w out : List ℕ) (here : ℕ) (rest : List ℕ) : Type 0 where
  pub room : here + length rest ≤ length out
  pub done : {last : List ℕ} {next : ℕ} → Put out here rest last next → Put old at w last next

-- at first the whole text is left
pub all_left : (old : List ℕ) (at : ℕ) (w : List ℕ) → at + length w ≤ length old → Left old at w old at w
all_left old at w h = record { room = h; done = λ p. p }

module _ {old : List ℕ} {at : ℕ} {w out : List ℕ} {here : ℕ} (x y : List ℕ) (left : Left old at w out here (x ++ y)) where
  -- there is room for the next field
  pub next_room : here + length x ≤ length out
  next_room = omega (arith, left.room, length-append x y)

  -- when it is written, what comes behind it is left
  pub next_left : {last : List ℕ} {next : ℕ} → Put out here x last next → Left old at w last next y
  next_left p = record {
    room = written_room out here x y left.room p;
    done = λ q. left.done (written_next out here x y left.room p q);
  }

-- with the last field a line, which is a text at the start and fits into some room, is written
pub line_done : {old w out rest last : List ℕ} {here next room : ℕ} → Left old 0 w out here rest → Put out here rest last next → length w ≤ room
    → Put old 0 w last next × (next ≤ room)
line_done left p h = let q = left.done p in (q, omega (arith, q.0))
