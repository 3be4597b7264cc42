-- The weights of a gate: each is in the range of 32 bits. Assumes nothing.
use mathlib.Core.List.{List, map-id}
use Prim.Native.Nat.{ℕ}
use lib.ListN.{get_or}
use lib.IntN.{ℤ, pos}
use mir.Syntax.{w32}
use mir.Val.{Val, SFits}
use denote.Array.{each}
use denote.Shadow.{shadow}
use denote.Signed.{SInt}
use Rattle.numbers.proofs.Widths.{signed_fits_field}

-- an element of an array of 32 bits is in their range, for `search`, from what the code's types say of it
pub signed_fits_row : (xs : List ℤ) (us : List Val) (i : ℕ) → shadow (each ℤ (SInt w32).own_val xs us) → SFits w32 (get_or xs i (pos 0))
signed_fits_row xs us i p = signed_fits_field xs us i (rw (map-id xs) p)
