-- Laws of the bits of rows in bytes that are made of others: `!` has the bits that they lack, `&` those that both have. Assumes nothing.
use mathlib.Core.Path.{◌≡◌, ◌∙◌, ap, ap₂}
use mathlib.Core.Bool.{not, ◌&&◌}
use mathlib.Core.List.{List}
use Prim.Native.Nat.{ℕ, ◌-◌, ◌*◌, ◌/◌, ◌%◌, ◌^◌, ◌≤◌, ◌<◌}
use native.Mathlib.Nat.{add-zero}
use native.Mathlib.Omega.{arith}
use lib.Bits.{bit_and}
use lib.ListN.{get_or, drop, get_or-append}
use Rattle.numbers.specs.Packed.{bit_in}
use Rattle.numbers.specs.Tabulate.{tabulate}
use Rattle.numbers.proofs.PackedLaws.{packed_digits, packed_bit, packed_not, packed_and}
use Rattle.numbers.proofs.TabulateLaws.{filled, length_tabulate, get_d_tabulate, get_d_unfilled}
use Rattle.table.specs.Table.{bit_at}
use Rattle.table.proofs.RowLaws.{ByteArray}

-- the bits of `!` of a byte, and of `&` of two
bit_not : (x j : ℕ) → x < 256 → j < 8 → bit_in (2 ^ 8 - 1 - x) j ≡ not (bit_in x j)
bit_not x j h l =
    ap (λ (y : ℕ). bit_in (2 ^ 8 - 1 - y) j) (packed_digits 8 x h)
    ∙ ap (λ (y : ℕ). bit_in y j) (packed_not 8 (bit_in x))
    ∙ packed_bit 8 j (λ i. not (bit_in x i)) l

bit_and_lem : (x y j : ℕ) → x < 256 → y < 256 → j < 8 → bit_in (bit_and x y) j ≡ (bit_in x j && bit_in y j)
bit_and_lem x y j h k l =
    ap (λ (z : ℕ). bit_in z j) (ap₂ bit_and (packed_digits 8 x h) (packed_digits 8 y k) ∙ packed_and 8 (bit_in x) (bit_in y))
    ∙ packed_bit 8 j (λ i. bit_in x i && bit_in y i) l

-- the bit of a row in bytes of which m are stored
made_bit : {bytes : List ℕ} (f : ℕ → ℕ) (old : List ℕ) (m r : ℕ) → bytes ≡ filled f old m → r < 8 * m → bit_at bytes r ≡ bit_in (f (r / 8)) (r % 8)
unfolding bit_at
made_bit f old m r made h =
    rw made
    (ap (λ (x : ℕ). bit_in x (r % 8))
    (get_or-append (tabulate m f) (drop m old) 0 (r / 8) (omega (arith, length_tabulate f m)) ∙ get_d_tabulate f m (r / 8) 0 (omega arith)))

-- the byte at the place up to which they are stored is as it came
pub unmade : {bytes : List ℕ} (f : ℕ → ℕ) (old : List ℕ) (m : ℕ) → bytes ≡ filled f old m → get_or bytes m 0 ≡ get_or old m 0
unmade f old m made = ap (λ (l : List ℕ). get_or l m 0) made ∙ rw add-zero at (get_d_unfilled f old m 0 0)

pub not_at : {bytes xs : List ℕ} (old : List ℕ) (m : ℕ) → ByteArray xs → m ≤ 32 → bytes ≡ filled (λ i. 2 ^ 8 - 1 - get_or xs i 0) old m
    → (r : ℕ) → r < 8 * m → bit_at bytes r ≡ not (bit_at xs r)
unfolding bit_at
not_at old m x most made r h = made_bit _ old m r made h ∙ bit_not _ (r % 8) (x.fits (r / 8) (omega arith)) (omega arith)

pub and_at : {bytes xs ys : List ℕ} (old : List ℕ) (m : ℕ) → ByteArray xs → ByteArray ys → m ≤ 32 → bytes ≡ filled (λ i. bit_and (get_or xs i 0) (get_or ys i 0)) old m
    → (r : ℕ) → r < 8 * m → bit_at bytes r ≡ (bit_at xs r && bit_at ys r)
unfolding bit_at
and_at old m x y most made r h =
    made_bit _ old m r made h ∙ bit_and_lem _ _ (r % 8) (x.fits (r / 8) (omega arith)) (y.fits (r / 8) (omega arith)) (omega arith)
