-- Laws of the words of a table: a byte is eight of its bits, what is left of a word past the rows, the true rows and the false rows of a word
-- that are cared for, and the pairs of an input. An input of place 0 to 5 pairs rows of one word, and a higher one pairs the rows of two words.
-- Assumes nothing.
use mathlib.Core.Path.{◌≡◌, refl, sym, ◌∙◌, ap, ap₂}
use mathlib.Core.Bool.{Bool, true, false, not, ◌&&◌}
use mathlib.Core.List.{List}
use Prim.Native.Nat.{ℕ, suc, ◌+◌, ◌-◌, ◌*◌, ◌/◌, ◌%◌, ◌^◌, ◌≤◌, ◌<◌}
use native.Mathlib.Nat.{pow-suc, add-mul-div_right}
use native.Mathlib.Decide.{dec_le}
use native.Mathlib.Omega.{arith}
use lib.Bits.{bit_and}
use lib.Dec.{eqb, ltb}
use lib.ListN.{get_or}
use lib.Pow.{pow_pos, pow-add, pow_mono, shl_exact, shr-shr}
use borrow.Author.Tests.{eqb-true, lt-ltb, le-ltb}
use Rattle.table.specs.Table.{bit_at}
use Rattle.function.specs.Function.{level}
use Rattle.table.proofs.TableLaws.{partner_below}
use Rattle.table.proofs.RowLaws.{byte_bit}
use Rattle.numbers.specs.Packed.{packed}
use Rattle.numbers.specs.Tests.{same_bool}
use Rattle.numbers.specs.Tabulate.{tabulate}
use Rattle.numbers.proofs.TabulateLaws.{get_d_tabulate}
use Rattle.unateness.specs.Words.{word_of, bits_from, lacks, own_at, partner_at}
use Rattle.scan.specs.Scan.{in_table}
use Rattle.numbers.proofs.PackedLaws.{packed_ext, packed_and, packed_not, packed_none, packed_append, packed_digits, packed_cut, packed_shift}

-- ---- the bytes

-- a byte is the eight bits from its first row on
byte_bits : (bytes : List ℕ) (i : ℕ) → get_or bytes i 0 < 256 → get_or bytes i 0 ≡ packed 8 (bits_from bytes (8 * i))
byte_bits bytes i h = packed_digits 8 (get_or bytes i 0) h ∙ packed_ext 8 _ _ (byte_bit bytes i)

-- a byte more on top of the bits of those before it
pub bytes_more : (bytes : List ℕ) (first at : ℕ) → at < 8 → get_or bytes (first + at) 0 < 256
    → let bits = bits_from bytes (8 * first) in
    packed (8 * at) bits + get_or bytes (first + at) 0 * 2 ^ (8 * at) % 2 ^ 64 ≡ packed (8 * (at + 1)) bits
bytes_more bytes first at h k =
    let byte = get_or bytes (first + at) 0 in
    let bits = bits_from bytes (8 * first) in
    let top = packed 8 (λ j. bits (8 * at + j)) in
    let is : byte ≡ top = byte_bits bytes (first + at) k ∙ packed_ext 8 _ _ (λ j l. ap (bit_at bytes) (omega arith)) in
    let all : 8 * at + 8 ≡ 8 * (at + 1) = omega arith in
    omega (arith, shl_exact {a = byte} 8 (8 * at) 64 k (omega arith), ap (λ (x : ℕ). x * 2 ^ (8 * at)) is, packed_append (8 * at) 8 bits)
    ∙ ap (λ (x : ℕ). packed x bits) all

-- ---- the rows of the table

module _ (bytes : List ℕ) (rows k : ℕ) where
  -- the 64 bits from byte 8k on are those from row 64k on
  row_from : (j : ℕ) → bits_from bytes (8 * (8 * k)) j ≡ bit_at bytes (64 * k + j)
  row_from j = ap (bit_at bytes) (omega arith)

  -- a word past the rows is 0
  pub word_past : rows ≤ 64 * k → 0 ≡ word_of (in_table rows bytes) k
  word_past h = sym (packed_none 64 _ (λ j l. rw (le-ltb (64 * k + j) rows (omega arith))))

  -- a word before their end is the table's bits
  pub word_whole : 64 ≤ rows - 64 * k → packed 64 (bits_from bytes (8 * (8 * k))) ≡ word_of (in_table rows bytes) k
  word_whole h = packed_ext 64 _ _ (λ j l. row_from j ∙ sym (rw (lt-ltb (64 * k + j) rows (omega arith))))

  -- the last word of fewer rows is cut
  pub word_cut : 64 * k < rows → rows - 64 * k < 64
      → packed 64 (bits_from bytes (8 * (8 * k))) % 2 ^ (rows - 64 * k) ≡ word_of (in_table rows bytes) k
  word_cut g h =
      packed_cut 64 (rows - 64 * k) _ (omega arith)
      ∙ packed_ext 64 _ _ (λ j l. ap₂ ◌&&◌ (inside j (dec_le (rows - 64 * k) j)) (row_from j))
    where
      inside : (j : ℕ) → Dec (rows - 64 * k ≤ j) → ltb j (rows - 64 * k) ≡ ltb (64 * k + j) rows
      inside j (yes past) = le-ltb j (rows - 64 * k) past ∙ sym (le-ltb (64 * k + j) rows (omega arith))
      inside j (no before) = lt-ltb j (rows - 64 * k) (omega arith) ∙ sym (lt-ltb (64 * k + j) rows (omega arith))

-- a word that a list holds
pub word_is : {words : List ℕ} (f : ℕ → Bool) (k : ℕ) → k < 4 → words ≡ tabulate 4 (word_of f) → get_or words k 0 ≡ word_of f k
word_is f k h e = ap (λ (l : List ℕ). get_or l k 0) e ∙ get_d_tabulate (word_of f) 4 k 0 h

-- ---- the sides

same_true : (b : Bool) → b ≡ same_bool b true
same_true true = refl
same_true false = refl

same_false : (b : Bool) → not b ≡ same_bool b false
same_false true = refl
same_false false = refl

module _ (cares values : ℕ → Bool) (k : ℕ) where
  -- the rows of a word that are cared for and true
  pub word_trues : bit_and (word_of cares k) (word_of values k) ≡ word_of (λ r. cares r && same_bool (values r) true) k
  word_trues =
      packed_and 64 (λ j. cares (64 * k + j)) (λ j. values (64 * k + j))
      ∙ packed_ext 64 _ _ (λ j l. ap (λ (b : Bool). cares (64 * k + j) && b) (same_true (values (64 * k + j))))

  -- and those that are cared for and false
  pub word_falses : bit_and (word_of cares k) (2 ^ 64 - 1 - word_of values k) ≡ word_of (λ r. cares r && same_bool (values r) false) k
  word_falses =
      ap (bit_and (word_of cares k)) (packed_not 64 (λ j. values (64 * k + j)))
      ∙ packed_and 64 (λ j. cares (64 * k + j)) (λ j. not (values (64 * k + j)))
      ∙ packed_ext 64 _ _ (λ j l. ap (λ (b : Bool). cares (64 * k + j) && b) (same_false (values (64 * k + j))))

-- ---- levels

-- the level of a place below 6 is that of the row's bit in its word
level_within : (k j place : ℕ) → place < 6 → level 2 (64 * k + j) place ≡ level 2 j place
level_within k j place h =
    let d = 2 ^ (5 - place) in
    let places : 6 ≡ 5 - place + suc place = omega arith in
    let powers : 64 ≡ d * (2 ^ place * 2) =
    ap (λ (x : ℕ). 2 ^ x) places ∙ pow-add 2 (5 - place) (suc place) ∙ ap (λ (x : ℕ). d * x) (pow-suc 2 place) in
    let apart : 64 * k + j ≡ j + k * d * 2 * 2 ^ place = omega (arith, ap (λ (x : ℕ). x * k) powers) in
    ap (λ (x : ℕ). x / 2 ^ place % 2) apart ∙ ap (λ (x : ℕ). x % 2) (add-mul-div_right j (k * d * 2) (pow_pos place)) ∙ omega arith

-- that of a higher place is the word's
level_across : (k j q : ℕ) → j < 64 → level 2 (64 * k + j) (6 + q) ≡ level 2 k q
level_across k j q h =
    let word : (64 * k + j) / 64 ≡ k = omega arith in
    ap (λ (x : ℕ). x % 2) (sym (shr-shr (64 * k + j) 6 q) ∙ ap (λ (x : ℕ). x / 2 ^ q) word)

-- ---- pairs within a word

and_comm : (a b : Bool) → (a && b) ≡ (b && a)
and_comm true true = refl
and_comm true false = refl
and_comm false true = refl
and_comm false false = refl

module _ (f : ℕ → Bool) (k place : ℕ) (h : place < 6) where
  lacks_within : (j : ℕ) → lacks place j ≡ lacks place (64 * k + j)
  lacks_within j = ap (λ (x : ℕ). eqb x 0) (sym (level_within k j place h))

  -- the rows of a word that lack the input
  pub own_within : bit_and (word_of f k) (packed 64 (lacks place)) ≡ word_of (own_at f place) k
  own_within =
      packed_and 64 (λ j. f (64 * k + j)) (lacks place)
      ∙ packed_ext 64 _ _ (λ j l. and_comm (f (64 * k + j)) (lacks place j) ∙ ap (λ (b : Bool). b && f (64 * k + j)) (lacks_within j))

  moved : (j : ℕ) → j < 64 → (b : Bool) → lacks place j ≡ b
      → ((ltb (2 ^ place + j) 64 && f (64 * k + (2 ^ place + j))) && b) ≡ (b && f (64 * k + j + 2 ^ place))
  moved j l true e =
      let below = partner_below 6 j place h (eqb-true _ _ e) l in
      let same : 64 * k + (2 ^ place + j) ≡ 64 * k + j + 2 ^ place = omega arith in
      rw (lt-ltb (2 ^ place + j) 64 (omega arith), same) (and_comm (f (64 * k + j + 2 ^ place)) true)
  moved j l false e = and_comm (ltb (2 ^ place + j) 64 && f (64 * k + (2 ^ place + j))) false

  -- their partners: the word shifted by the distance of a row and its partner
  pub partner_within : bit_and (word_of f k / 2 ^ 2 ^ place) (packed 64 (lacks place)) ≡ word_of (partner_at f place) k
  partner_within =
      let few = pow_mono {i = place} {j = 6} (omega arith) in
      ap (λ (x : ℕ). bit_and x (packed 64 (lacks place))) (packed_shift 64 (2 ^ place) (λ j. f (64 * k + j)) few)
      ∙ packed_and 64 (λ j. ltb (2 ^ place + j) 64 && f (64 * k + (2 ^ place + j))) (lacks place)
      ∙ packed_ext 64 _ _
      (λ j l. moved j l (lacks place j) refl ∙ ap (λ (b : Bool). b && f (64 * k + j + 2 ^ place)) (lacks_within j))

-- ---- pairs of two words

module _ (f : ℕ → Bool) (k q place : ℕ) (is : 6 + q ≡ place) where
  lacks_across : (j : ℕ) → j < 64 → lacks place (64 * k + j) ≡ eqb (level 2 k q) 0
  lacks_across j l = ap (λ (x : ℕ). lacks x (64 * k + j)) (sym is) ∙ ap (λ (x : ℕ). eqb x 0) (level_across k j q l)

  -- a word that lacks the input is its own rows
  pub own_across : level 2 k q ≡ 0 → word_of f k ≡ word_of (own_at f place) k
  own_across e = packed_ext 64 _ _ (λ j l. sym (rw (lacks_across j l, e)))

  -- and the word 2^q further on is their partners
  pub partner_across : level 2 k q ≡ 0 → word_of f (k + 2 ^ q) ≡ word_of (partner_at f place) k
  partner_across e =
      let apart : 64 * 2 ^ q ≡ 2 ^ place = sym (pow-add 2 6 q) ∙ ap (λ (x : ℕ). 2 ^ x) is in
      packed_ext 64 _ _
      (λ j l.
      let same : 64 * (k + 2 ^ q) + j ≡ 64 * k + j + 2 ^ place = omega arith in
      ap f same ∙ sym (rw (lacks_across j l, e)))

  -- a word that has the input has no pairs of it
  pub pairs_none : level 2 k q ≡ 1 → (g : ℕ → Bool) → 0 ≡ packed 64 (λ j. lacks place (64 * k + j) && g j)
  pairs_none e g = sym (packed_none 64 _ (λ j l. rw (lacks_across j l, e)))
