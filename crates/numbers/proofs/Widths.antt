-- Signed numbers at two widths: the size that a width bounds, a number that is cast to a wider one, and the elements of an array.
-- Assumes nothing.
use mathlib.Core.Path.{◌≡◌, ◌∙◌}
use mathlib.Core.List.{List, [], ◌∷◌, map, map-id}
use Prim.Native.Nat.{ℕ, zero, suc, ◌+◌, ◌^◌, ◌≤◌, ◌<◌}
use native.Mathlib.Omega.{arith}
use lib.Dec.{T, leb}
use lib.ListN.{get_or}
use lib.IntN.{ℤ, pos}
use mir.Syntax.{Width, w32}
use mir.Val.{Val, hbits, to_z, of_z, SFits}
use mir.Facts.{to_z-of_z, sfits_widen}
use denote.Array.{each}
use denote.Shadow.{shadow}
use denote.Signed.{SInt}
use Rattle.numbers.proofs.Int.{up, dn, one_part, mag_parts, parts_fits}

-- a number in the range of a width is at most half the width's count in size
pub fits_size : {w : Width} {z : ℤ} → SFits w z → up z + dn z ≤ 2 ^ hbits w
fits_size {w} {z} h = omega (arith, h.sfits, (mag_parts z).0, (mag_parts z).1, one_part z)

-- a number below that in size is in the range
pub size_fits : {w : Width} {z : ℤ} → up z + dn z < 2 ^ hbits w → SFits w z
size_fits h = parts_fits (omega arith, omega arith)

-- a number read from its bits is in the range of a wider width
pub wide_fits : {w w' : Width} {z : ℤ} → T (leb (hbits w) (hbits w')) → SFits w z → SFits w' (to_z w (of_z w z))
wide_fits t h = rw (to_z-of_z h) (sfits_widen t h)

-- a number that is cast to a wider width is read back from the bits there
pub wide_back : {w : Width} {z : ℤ} (w' : Width) → T (leb (hbits w) (hbits w')) → SFits w z → to_z w' (of_z w' (to_z w (of_z w z))) ≡ z
wide_back w' t h = to_z-of_z (wide_fits {w' = w'} t h) ∙ to_z-of_z h

-- an element of an array of signed integers is in the range of its width
signed_fits : (w : Width) (xs : List ℤ) (us : List Val) (i : ℕ) → 0 < 2 ^ hbits w → shadow (each ℤ (SInt w).own_val xs us)
    → SFits w (get_or xs i (pos 0))
signed_fits w [] us i h p = record { sfits = h }
signed_fits w (x ∷ xs) [] i h p = absurd p
signed_fits w (x ∷ xs) (u ∷ us) zero h p = record { sfits = p.0.1 }
signed_fits w (x ∷ xs) (u ∷ us) (suc i) h p = signed_fits w xs us i h p.1

-- the same of an array of 32 bits that is a field, for `search`, from what the code's types say of it
pub signed_fits_field : (xs : List ℤ) (us : List Val) (i : ℕ) → shadow (each ℤ (SInt w32).own_val (map (λ (v : ℤ). v) xs) us)
    → SFits w32 (get_or xs i (pos 0))
signed_fits_field xs us i p = signed_fits w32 xs us i (omega arith) (rw (map-id xs) at p)
