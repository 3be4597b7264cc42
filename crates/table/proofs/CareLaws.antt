-- Laws of care bits: a table with every row cared for has exactly the bits of its rows, and no value bit stands on a row that is not cared for
-- exactly if no byte has one. Assumes nothing.
use mathlib.Core.Path.{◌≡◌, refl, sym, ◌∙◌, ap, ap₂}
use mathlib.Core.Bool.{Bool, true, false, not, ◌&&◌, ◌||◌}
use mathlib.Core.List.{List}
use Prim.Native.Nat.{ℕ, ◌+◌, ◌-◌, ◌*◌, ◌/◌, ◌%◌, ◌^◌, ◌≤◌, ◌<◌}
use native.Mathlib.Decide.{dec_le}
use native.Mathlib.Omega.{arith}
use lib.Bits.{bit_and}
use lib.ListN.{get_or}
use borrow.Author.Tests.{not-false}
use Rattle.numbers.specs.Packed.{packed, bit_in}
use Rattle.numbers.proofs.PackedLaws.{packed_ext, packed_digits, packed_and, packed_not, packed_none, packed_zero}
use Rattle.numbers.proofs.TestLaws.{all_below_at, all_below_from}
use Rattle.types.specs.declared.table.Table.{Table}
use Rattle.table.specs.Table.{rows_of, rows, byte_count, bit_at, value, cared, every_row, whole_table, is_whole, stray_value, spare_set}
use Rattle.table.proofs.RowLaws.{ByteArray, byte_bit, rows_long, row_byte_lt, rows_clear, row_is, spare_none, same_bits}

-- ---- every row cared for

-- every row is cared for exactly if each is
pub whole_at : (t : Table) → is_whole t ≡ true → (r : ℕ) → r < rows t → cared t r ≡ true
unfolding is_whole
whole_at t e r h = all_below_at (rows t) (cared t) e r h

pub whole_from : (t : Table) → ((r : ℕ) → r < rows t → cared t r ≡ true) → is_whole t ≡ true
unfolding is_whole
whole_from t h = all_below_from (rows t) (cared t) h

-- the bits of every row are an array of the code
pub every_array : (n : ℕ) → n ≤ 8 → ByteArray (every_row n)
every_array n h = record { size = rows_long n (λ r. true) h; fits = row_byte_lt n (λ r. true) h }

-- a table made of them has every row cared for
pub whole_table_lem : (n : ℕ) (bits : List ℕ) → n ≤ 8 → is_whole (whole_table n bits) ≡ true
whole_table_lem n bits h = whole_from (whole_table n bits) (λ r l. row_is n (λ r. true) h r l)

-- care bits without a spare one, of a table with every row cared for, are those of its rows
pub whole_cares : (t : Table) → t.n ≤ 8 → ByteArray t.cares → spare_set t.n t.cares ≡ false → is_whole t ≡ true → t.cares ≡ every_row t.n
whole_cares t h array clear whole = same_bits array (every_array t.n h) (λ r l. by r (dec_le (rows_of t.n) r))
  where
    by : (r : ℕ) → Dec (rows_of t.n ≤ r) → bit_at t.cares r ≡ bit_at (every_row t.n) r
    by r (yes past) =
        spare_none t.n t.cares h clear r past ∙ sym (spare_none t.n (every_row t.n) h (rows_clear t.n (λ r. true) h) r past)
    by r (no before) = whole_at t whole r (omega arith) ∙ sym (row_is t.n (λ r. true) h r (omega arith))

-- where the bytes of the rows are those, every row is cared for
pub bytes_whole : (t : Table) → t.n ≤ 8 → ((i : ℕ) → i < byte_count t.n → get_or t.cares i 0 ≡ get_or (every_row t.n) i 0) → is_whole t ≡ true
unfolding bit_at
bytes_whole t h same =
    whole_from t (λ r l. ap (λ (b : ℕ). bit_in b (r % 8)) (same (r / 8) (omega arith)) ∙ row_is t.n (λ r. true) h r l)

pub cares_whole : (t : Table) → t.n ≤ 8 → t.cares ≡ every_row t.n → is_whole t ≡ true
cares_whole t h e = whole_from t (λ r l. ap (λ (l : List ℕ). bit_at l r) e ∙ row_is t.n (λ r. true) h r l)

-- ---- a value bit on a row that is not cared for

-- the bits of a byte that are not in another
pub byte_stray : (b c : ℕ) → b < 256 → c < 256 → bit_and b (2 ^ 8 - 1 - c) ≡ packed 8 (λ j. bit_in b j && not (bit_in c j))
byte_stray b c h k =
    ap₂ (λ (x y : ℕ). bit_and x (2 ^ 8 - 1 - y)) (packed_digits 8 b h) (packed_digits 8 c k)
    ∙ ap (bit_and (packed 8 (bit_in b))) (packed_not 8 (bit_in c))
    ∙ packed_and 8 (bit_in b) (λ j. not (bit_in c j))

-- the bits of byte i that are values of rows that are not cared for
abbrev pub stray_byte : Table → ℕ → ℕ
stray_byte t i = bit_and (get_or t.bytes i 0) (2 ^ 8 - 1 - get_or t.cares i 0)

-- whether a row has no value bit, or is cared for
abbrev pub kept_at : Table → ℕ → Bool
kept_at t r = not (value t r) || cared t r

kept_not : (v c : Bool) → (v && not c) ≡ not (not v || c)
kept_not true c = refl
kept_not false c = refl

module _ (t : Table) (values : ByteArray t.bytes) (cares : ByteArray t.cares) where
  stray_bits : (i : ℕ) → i < 32 → stray_byte t i ≡ packed 8 (λ j. not (kept_at t (8 * i + j)))
  stray_bits i l =
      byte_stray _ _ (values.fits i l) (cares.fits i l)
      ∙ packed_ext 8 _ _
      (λ j k. kept_not (bit_in (get_or t.bytes i 0) j) (bit_in (get_or t.cares i 0) j)
      ∙ ap₂ (λ (v c : Bool). not (not v || c)) (byte_bit t.bytes i j k) (byte_bit t.cares i j k))

  -- a byte with none keeps its eight rows
  pub byte_kept : (i : ℕ) → i < 32 → stray_byte t i ≡ 0 → (j : ℕ) → j < 8 → kept_at t (8 * i + j) ≡ true
  byte_kept i l e j k = not-false _ (packed_zero 8 (λ j. not (kept_at t (8 * i + j))) (sym (stray_bits i l) ∙ e) j k)

  -- where all are kept, no value is astray
  pub kept_all : ((r : ℕ) → r < rows t → kept_at t r ≡ true) → stray_value t ≡ false
  unfolding stray_value
  kept_all kept = ap not (all_below_from (rows t) (kept_at t) kept)

  module _ (h : t.n ≤ 8) (clear : spare_set t.n t.bytes ≡ false) where
    -- where no value is astray, every row is kept: those past the table have no value bit
    kept_here : stray_value t ≡ false → (r : ℕ) → Dec (rows t ≤ r) → kept_at t r ≡ true
    unfolding stray_value
    kept_here e r (yes past) = ap (λ (v : Bool). not v || cared t r) (spare_none t.n t.bytes h clear r past)
    kept_here e r (no before) = all_below_at (rows t) (kept_at t) (not-false _ e) r (omega arith)

    -- so no byte has a value bit on such a row
    pub none_stray : stray_value t ≡ false → (i : ℕ) → i < 32 → stray_byte t i ≡ 0
    none_stray e i l =
        stray_bits i l ∙ packed_none 8 _ (λ j k. ap not (kept_here e (8 * i + j) (dec_le (rows t) (8 * i + j))))
