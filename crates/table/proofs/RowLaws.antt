-- The bits of rows in bytes: the bits of a byte that are rows, the bytes that a loop makes of rows, which keep their format; and bytes that are
-- known by their bits. Assumes nothing.
use mathlib.Core.Path.{◌≡◌, refl, sym, ◌∙◌, ap, ap₂}
use mathlib.Core.Bool.{Bool, true, false, not, ◌&&◌}
use mathlib.Core.List.{List}
use Prim.Native.Nat.{ℕ, zero, suc, ◌+◌, ◌-◌, ◌*◌, ◌/◌, ◌%◌, ◌^◌, ◌≤◌, ◌<◌}
use native.Mathlib.Nat.{zero-add, mod-lt, div-eq_of_lt, lt_of_lt_of_le}
use native.Mathlib.Decide.{dec_le}
use native.Mathlib.Omega.{arith}
use lib.Dec.{eqb, ltb}
use lib.ListN.{length, get_or, drop, replicate, length-drop, length-replicate, get_or-replicate, get_or-append}
use lib.Seq.{get_or-drop, ext_get_or}
use lib.Pow.{pow_pos, pow-add, pow_mono}
use borrow.Author.Tests.{lt-ltb, le-ltb, ltb-true}
use Rattle.numbers.specs.Packed.{packed, bit_in}
use Rattle.numbers.proofs.PackedLaws.{packed_ext, packed_lt, packed_digits, packed_cut, packed_none, packed_bit}
use Rattle.numbers.specs.Tabulate.{tabulate}
use Rattle.numbers.specs.Tests.{all_at_most}
use Rattle.numbers.proofs.TabulateLaws.{filled, length_tabulate, get_d_tabulate, tabulate_get_d, get_d_unfilled, length_filled}
use Rattle.numbers.proofs.TestLaws.{all_at_most_at, all_at_most_from, or_false_left, or_false_right}
use Rattle.table.specs.Table.{rows_of, byte_count, bit_at, spare_set, row_byte, row_bytes}
use Rattle.table.proofs.TableLaws.{rows_le, bytes_le, byte_filled, spare_rest}

-- three inputs and more fill whole bytes
pub whole_bytes : (n : ℕ) → 3 ≤ n → rows_of n ≡ 8 * 2 ^ (n - 3)
whole_bytes n h =
    let parts : n ≡ 3 + (n - 3) = omega arith in
    ap (λ (x : ℕ). 2 ^ x) parts ∙ pow-add 2 3 (n - 3)

-- bit j of byte i is row 8i + j
pub byte_bit : (bytes : List ℕ) (i j : ℕ) → j < 8 → bit_in (get_or bytes i 0) j ≡ bit_at bytes (8 * i + j)
unfolding bit_at
byte_bit bytes i j h =
    let at : (8 * i + j) / 8 ≡ i = omega arith in
    let rest : (8 * i + j) % 8 ≡ j = omega arith in rw (at, rest)

-- ---- the bits of a byte that are rows

pub all_kept : (n b : ℕ) → 3 ≤ n → b < 256 → b ≡ packed 8 (λ j. ltb j (rows_of n) && bit_in b j)
all_kept n b h l =
    packed_digits 8 b l ∙ packed_ext 8 _ _ (λ j k. sym (rw (lt-ltb j (rows_of n) (omega (arith, pow_mono h)))))

pub some_kept : (n b : ℕ) → n < 3 → b < 256 → b % 2 ^ rows_of n ≡ packed 8 (λ j. ltb j (rows_of n) && bit_in b j)
some_kept n b h l =
    ap (λ (x : ℕ). x % 2 ^ rows_of n) (packed_digits 8 b l) ∙ packed_cut 8 (rows_of n) (bit_in b) (omega (arith, pow_mono h))

-- the byte 255 has every bit
pub every_bit : (j : ℕ) → j < 8 → bit_in 255 j ≡ true
every_bit zero h = refl
every_bit (suc zero) h = refl
every_bit (suc (suc zero)) h = refl
every_bit (suc (suc (suc zero))) h = refl
every_bit (suc (suc (suc (suc zero)))) h = refl
every_bit (suc (suc (suc (suc (suc zero))))) h = refl
every_bit (suc (suc (suc (suc (suc (suc zero)))))) h = refl
every_bit (suc (suc (suc (suc (suc (suc (suc zero))))))) h = refl
every_bit (suc (suc (suc (suc (suc (suc (suc (suc j)))))))) h = absurd (omega arith)

-- ---- a byte of rows

-- only the first byte has bits past the rows
first_byte : (n k j : ℕ) → 8 * k < rows_of n → j < 8 → rows_of n ≤ 8 * k + j → k ≡ 0
first_byte n k j inside l past = by (dec_le 3 n)
  where
    by : Dec (3 ≤ n) → k ≡ 0
    by (yes h) = absurd (omega (arith, whole_bytes n h))
    by (no h) = omega (arith, pow_mono {i = n} {j = 2} (omega arith))

-- a byte whose bits are the rows of f from 8k on
pub row_byte_lem : (n k b : ℕ) (f : ℕ → Bool) → 8 * k < rows_of n → ((j : ℕ) → j < 8 → 8 * k + j < rows_of n → bit_in b j ≡ f (8 * k + j))
    → packed 8 (λ j. ltb j (rows_of n) && bit_in b j) ≡ row_byte (rows_of n) f k
row_byte_lem n k b f inside same = packed_ext 8 _ _ (λ j l. by j l (dec_le (rows_of n) (8 * k + j)))
  where
    by : (j : ℕ) → j < 8 → Dec (rows_of n ≤ 8 * k + j) → (ltb j (rows_of n) && bit_in b j) ≡ (ltb (8 * k + j) (rows_of n) && f (8 * k + j))
    by j l (yes past) =
        let first = first_byte n k j inside l past in
        rw (le-ltb j (rows_of n) (omega arith), le-ltb (8 * k + j) (rows_of n) past) refl
    by j l (no before) =
        rw (lt-ltb j (rows_of n) (omega arith), lt-ltb (8 * k + j) (rows_of n) (omega arith)) (same j l (omega arith))

-- rows past the last make bytes of 0
past_byte : (rows k : ℕ) (f : ℕ → Bool) → rows ≤ 8 * k → row_byte rows f k ≡ 0
past_byte rows k f h = packed_none 8 _ (λ j l. rw (le-ltb (8 * k + j) rows (omega arith)))

-- ---- the bytes of rows

module _ (n : ℕ) (f : ℕ → Bool) (h : n ≤ 8) where
  abbrev byte : ℕ → ℕ
  byte = row_byte (rows_of n) f

  stored_at : (i : ℕ) → i < 32 → Dec (byte_count n ≤ i) → get_or (filled byte (replicate 32 0) (byte_count n)) i 0 ≡ byte i
  stored_at i l (yes past) =
      let m = byte_count n in
      let at : i ≡ m + (i - m) = omega arith in
      ap (λ (k : ℕ). get_or (filled byte (replicate 32 0) m) k 0) at
      ∙ get_d_unfilled byte (replicate 32 0) m (i - m) 0
      ∙ ap (λ (k : ℕ). get_or (replicate 32 0) k 0) (sym at)
      ∙ get_or-replicate 32 i 0 0 l
      ∙ sym (past_byte (rows_of n) i f (omega arith))
  stored_at i l (no before) =
      let m = byte_count n in
      get_or-append (tabulate m byte) (drop m (replicate 32 0)) 0 i (omega (arith, length_tabulate byte m))
      ∙ get_d_tabulate byte m i 0 (omega arith)

  -- a loop that has stored the bytes of the rows into zeros has made them
  pub rows_made : {m : ℕ} {bytes : List ℕ} → m ≡ byte_count n → bytes ≡ filled byte (replicate 32 0) m → bytes ≡ row_bytes n f
  unfolding row_bytes
  rows_made {m} count stored =
      let zeros : length {A = ℕ} (replicate 32 0) ≡ 32 = length-replicate {A = ℕ} 32 0 in
      let long = length_filled byte (replicate 32 0) (byte_count n) (omega (arith, bytes_le h, zeros)) ∙ zeros in
      stored
      ∙ ap (filled byte (replicate 32 0)) count
      ∙ tabulate_get_d byte 32 0 (filled byte (replicate 32 0) (byte_count n)) long (λ i l. stored_at i l (dec_le (byte_count n) i))

  -- ---- they keep their format

  pub row_byte_at : (i : ℕ) → i < 32 → get_or (row_bytes n f) i 0 ≡ byte i
  unfolding row_bytes
  row_byte_at i l = get_d_tabulate byte 32 i 0 l

  pub rows_long : length (row_bytes n f) ≡ 32
  unfolding row_bytes
  rows_long = length_tabulate byte 32

  pub row_byte_lt : (i : ℕ) → i < 32 → get_or (row_bytes n f) i 0 < 256
  row_byte_lt i l = omega (arith, row_byte_at i l, packed_lt 8 (λ j. ltb (8 * i + j) (rows_of n) && f (8 * i + j)))

  byte_small : Dec (3 ≤ n) → byte 0 < 2 ^ rows_of n
  byte_small (yes big) = byte_filled big (packed_lt 8 _)
  byte_small (no few) =
      let cut = packed_cut 8 (rows_of n) f (omega (arith, pow_mono {i = n} {j = 2} (omega arith))) in
      let same : byte 0 ≡ packed 8 f % 2 ^ rows_of n = packed_ext 8 _ _ (λ j l. ap (λ (r : ℕ). ltb r (rows_of n) && f r) (zero-add j)) ∙ sym cut in
      omega (arith, same, mod-lt (packed 8 f) (pow_pos (rows_of n)))

  first_small : get_or (row_bytes n f) 0 0 < 2 ^ rows_of n
  first_small = omega (arith, row_byte_at 0 (omega arith), byte_small (dec_le 3 n))

  past_zero : all_at_most 0 (drop (byte_count n) (row_bytes n f)) ≡ true
  past_zero =
      let m = byte_count n in
      let bytes = row_bytes n f in
      all_at_most_from 0 (drop m bytes)
      (λ i l.
      let inside : m + i < 32 = omega (arith, length-drop m bytes, rows_long) in
      omega (arith, get_or-drop m bytes i 0, row_byte_at (m + i) inside, past_byte (rows_of n) (m + i) f (omega arith)))

  -- no spare bit is set
  pub rows_clear : spare_set n (row_bytes n f) ≡ false
  rows_clear = spare_rest n (row_bytes n f) first_small ∙ ap not past_zero

  -- a row's bit is what f says of it
  pub row_is : (r : ℕ) → r < rows_of n → bit_at (row_bytes n f) r ≡ f r
  unfolding bit_at
  row_is r l =
      let bits : ℕ → Bool = λ j. ltb (8 * (r / 8) + j) (rows_of n) && f (8 * (r / 8) + j) in
      let whole : 8 * (r / 8) + r % 8 ≡ r = omega arith in
      ap (λ (b : ℕ). bit_in b (r % 8)) (row_byte_at (r / 8) (omega (arith, rows_le h)))
      ∙ packed_bit 8 (r % 8) bits (omega arith)
      ∙ ap (λ (x : ℕ). ltb x (rows_of n) && f x) whole
      ∙ ap (λ (b : Bool). b && f r) (lt-ltb r (rows_of n) l)

-- ---- bytes known by their bits

-- bytes as code holds them: 32 numbers of 8 bits
pub record ByteArray (bytes : List ℕ) : Type 0 where
  pub size : length bytes ≡ 32
  pub fits : (i : ℕ) → i < 32 → get_or bytes i 0 < 256

-- rows past the last have no bit where no spare bit is set
pub spare_none : (n : ℕ) (bytes : List ℕ) → n ≤ 8 → spare_set n bytes ≡ false → (r : ℕ) → rows_of n ≤ r → bit_at bytes r ≡ false
unfolding bit_at spare_set
spare_none n bytes h clear r past = by (dec_le (8 * byte_count n) r)
  where
    not_not : (b : Bool) → not b ≡ false → b ≡ true
    not_not true e = refl
    not_not false e = sym e

    first : get_or bytes 0 0 < 2 ^ rows_of n
    first = ltb-true _ _ (not_not _ (or_false_left (not (ltb (get_or bytes 0 0) (2 ^ rows_of n))) _ clear))

    rest : all_at_most 0 (drop (byte_count n) bytes) ≡ true
    rest = not_not _ (or_false_right (not (ltb (get_or bytes 0 0) (2 ^ rows_of n))) _ clear)

    none : (b j : ℕ) → b < 2 ^ j → bit_in b j ≡ false
    none b j l = ap (λ (x : ℕ). eqb (x % 2) 1) (div-eq_of_lt l)

    by : Dec (8 * byte_count n ≤ r) → bit_in (get_or bytes (r / 8) 0) (r % 8) ≡ false
    by (yes far) =
        let m = byte_count n in
        let at : m + (r / 8 - m) ≡ r / 8 = omega arith in
        let zero = all_at_most_at 0 (drop m bytes) rest (r / 8 - m) in
        none _ (r % 8) (omega (arith, get_or-drop m bytes (r / 8 - m) 0, ap (λ (i : ℕ). get_or bytes i 0) at, pow_pos (r % 8)))
    by (no near) =
        let few : rows_of n < 8 = few_rows (dec_le 3 n) near in
        let at : r / 8 ≡ 0 = omega arith in
        let bit : r % 8 ≡ r = omega arith in
        ap₂ (λ (i j : ℕ). bit_in (get_or bytes i 0) j) at bit
        ∙ none (get_or bytes 0 0) r (lt_of_lt_of_le first (pow_mono past))
      where
        few_rows : Dec (3 ≤ n) → (8 * byte_count n ≤ r → ⊥) → rows_of n < 8
        few_rows (yes big) away = absurd (away (omega (arith, whole_bytes n big)))
        few_rows (no small) away = omega (arith, pow_mono {i = n} {j = 2} (omega arith))

-- bytes with the same bits are the same
pub same_bits : {xs ys : List ℕ} → ByteArray xs → ByteArray ys → ((r : ℕ) → r < 256 → bit_at xs r ≡ bit_at ys r) → xs ≡ ys
same_bits {xs} {ys} x y same =
    ext_get_or 0 xs ys (x.size ∙ sym y.size) (λ i l. at i (omega (arith, x.size)))
  where
    at : (i : ℕ) → i < 32 → get_or xs i 0 ≡ get_or ys i 0
    at i l =
        packed_digits 8 (get_or xs i 0) (x.fits i l)
        ∙ packed_ext 8 _ _ (λ j k. byte_bit xs i j k ∙ same (8 * i + j) (omega arith) ∙ sym (byte_bit ys i j k))
        ∙ sym (packed_digits 8 (get_or ys i 0) (y.fits i l))
