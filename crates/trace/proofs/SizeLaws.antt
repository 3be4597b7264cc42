-- The numbers that the test of a trace adds and compares at 64 bits: their sizes, and integers that are compared by their bits.
-- Assumes nothing.
use Rattle.std.specs.Prelude.{◌≡◌, ℕ, zero, suc, ◌+◌, ◌^◌, ◌≤◌, Bool, true, false, eqb, get_or, ℤ, pos}
use mathlib.Core.Path.{refl, sym, ◌∙◌, ap}
use native.Mathlib.Omega.{arith}
use mathlib.Core.List.{List, map-id}
use denote.Array.{each}
use denote.Shadow.{shadow}
use denote.Signed.{SInt}
use mir.Syntax.{Width, w32}
use mir.Val.{Val, to_z, of_z, SFits}
use mir.Facts.{to_z-of_z}
use borrow.Author.Tests.{eqb-true, eq-eqb}
use Rattle.std.proofs.lemmas.Bool.Decides.{same_from_decides}
use Rattle.numbers.specs.Tests.{same_z}
use Rattle.numbers.proofs.Int.{up, dn, parts_neg}
use Rattle.numbers.proofs.Widths.{fits_size, signed_fits_field}
use Rattle.numbers.proofs.TestLaws.{not_passed, same_z_correct}
use Rattle.types.specs.declared.vector.Vector.{Vector}
use Rattle.function.specs.Vector.{component}

-- an element of an array of 32 bits that is a field is in their range, for `search`, from what the code's types say of it
pub signed_fits_row : (xs : List ℤ) (us : List Val) (i : ℕ) → shadow (each ℤ (SInt w32).own_val xs us) → SFits w32 (get_or xs i (pos 0))
signed_fits_row xs us i p = signed_fits_field xs us i (rw (map-id xs) p)

-- a component of a vector of 32 bits is at most 2^31 in size
pub component_size : (v : Vector) (i : ℕ) → SFits w32 v.b → ((place : ℕ) → SFits w32 (get_or v.a place (pos 0)))
    → up (component v i) + dn (component v i) ≤ 2 ^ 31
component_size v zero b a = omega (arith, parts_neg v.b, fits_size b)
component_size v (suc place) b a = fits_size (a place)

-- integers in the range of a width are equal exactly if their bits are
pub same_z_bits : (w : Width) {x y : ℤ} → SFits w x → SFits w y → eqb (of_z w x) (of_z w y) ≡ same_z x y
same_z_bits w {x} {y} f g =
    same_from_decides _ _
    (λ e. sym (to_z-of_z f) ∙ ap (to_z w) (eqb-true _ _ e) ∙ to_z-of_z g, λ e. eq-eqb _ _ (ap (of_z w) e))
    (same_z_correct x y)
