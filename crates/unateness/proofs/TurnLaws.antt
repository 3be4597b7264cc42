-- Laws of the rows in which an input turns the value, over the words of a table: a row turns by its side and its partner's, and a search
-- finds one exactly if some word of turns is not 0. Assumes nothing.
use mathlib.Core.Path.{◌≡◌, refl, sym, ◌∙◌, ap, ap₂}
use mathlib.Core.Bool.{Bool, true, false, not, ◌&&◌, ◌||◌}
use mathlib.Core.Logic.{⊎_elim}
use Rattle.std.specs.Prelude.{Option, Some, None}
use Prim.Native.Nat.{ℕ, zero, suc, ◌+◌, ◌-◌, ◌*◌, ◌/◌, ◌%◌, ◌^◌, ◌≤◌, ◌<◌}
use native.Mathlib.Nat.{eq-or-lt_of_le, le_of_suc-le-suc}
use native.Mathlib.Decide.{dec_le}
use native.Mathlib.Numerals.{add-one}
use native.Mathlib.Omega.{arith}
use lib.Bits.{bit_and, bit_or}
use lib.Dec.{eqb}
use borrow.Author.Tests.{lt-ltb, le-ltb, eqb-true, ne_eqb}
use Rattle.numbers.specs.Tests.{same_bool}
use Rattle.std.specs.Prelude.{is_some}
use Rattle.numbers.proofs.TestLaws.{no_true, or_neither, or_false_left, or_false_right}
use Rattle.types.specs.declared.table.Table.{Table}
use Rattle.table.specs.Table.{rows, value, cared, function_of}
use Rattle.function.specs.Turns.{turns_at, first_turn}
use Rattle.table.proofs.TableLaws.{partner_below}
use Rattle.table.proofs.OnTables.{table_turns}
use Rattle.function.proofs.TurnLaws.{first_turn_some, first_turn_none}
use Rattle.numbers.specs.Packed.{packed}
use Rattle.unateness.specs.Words.{word_of, lacks, on_side, own_at, partner_at}
use Rattle.numbers.proofs.PackedLaws.{packed_and, packed_or, packed_none, packed_zero}

-- ---- the words of a loop, gathered

-- bit j of the first m words of g, gathered by `|`
pub gathered : (ℕ → Bool) → ℕ → ℕ → Bool
gathered g zero j = false
gathered g (suc m) j = gathered g m j || g (64 * m + j)

module _ (g : ℕ → Bool) where
  -- none gathered is 0
  pub gather_none : 0 ≡ packed 64 (gathered g 0)
  unfolding gathered
  gather_none = sym (packed_none 64 (gathered g 0) (λ j l. refl))

  -- a word more
  pub gather_more : {x y : ℕ} (m : ℕ) → x ≡ packed 64 (gathered g m) → y ≡ word_of g m → bit_or x y ≡ packed 64 (gathered g (m + 1))
  unfolding gathered
  gather_more m p q = rw add-one (ap₂ bit_or p q ∙ packed_or 64 (gathered g m) (λ j. g (64 * m + j)))

  gathered_fails : (m j : ℕ) → ((r : ℕ) → g r ≡ false) → gathered g m j ≡ false
  unfolding gathered
  gathered_fails zero j h = refl
  gathered_fails (suc m) j h = or_neither (gathered_fails m j h) (h (64 * m + j))

  gathered_false : (m j : ℕ) → gathered g m j ≡ false → (k : ℕ) → k < m → g (64 * k + j) ≡ false
  unfolding gathered
  gathered_false zero j e k h = absurd (omega arith)
  gathered_false (suc m) j e k h =
      ⊎_elim (λ last. rw last (or_false_right (gathered g m j) (g (64 * m + j)) e))
      (λ before. gathered_false m j (or_false_left (gathered g m j) (g (64 * m + j)) e) k before)
      (eq-or-lt_of_le (le_of_suc-le-suc h))

  -- where no row passes, the words gathered are 0
  pub gather_zero : (m : ℕ) → ((r : ℕ) → g r ≡ false) → packed 64 (gathered g m) ≡ 0
  gather_zero m h = packed_none 64 (gathered g m) (λ j l. gathered_fails m j h)

  -- where they are 0, no row of theirs passes
  pub zero_gathered : (m : ℕ) → packed 64 (gathered g m) ≡ 0 → (r : ℕ) → r < 64 * m → g r ≡ false
  zero_gathered m e r h =
      let split : 64 * (r / 64) + r % 64 ≡ r = omega arith in
      ap g (sym split)
      ∙ gathered_false m (r % 64) (packed_zero 64 (gathered g m) e (r % 64) (omega arith)) (r / 64) (omega arith)

-- ---- turns

-- the input of a place turns the value to `to` in row r, by the rows of the two sides: the row lacks the input and is of the other side, and its
-- partner is of side `to`
abbrev pub turned : (sides : Bool → ℕ → Bool) → Bool → ℕ → ℕ → Bool
turned sides to place r = own_at (sides (not to)) place r && partner_at (sides to) place r

-- the rows of a word in which it does
pub word_turned : {x y : ℕ} (sides : Bool → ℕ → Bool) (to : Bool) (place k : ℕ) → x ≡ word_of (own_at (sides (not to)) place) k
    → y ≡ word_of (partner_at (sides to) place) k
    → bit_and x y ≡ word_of (turned sides to place) k
word_turned sides to place k p q =
    ap₂ bit_and p q ∙ packed_and 64 (λ j. own_at (sides (not to)) place (64 * k + j)) (λ j. partner_at (sides to) place (64 * k + j))

-- whether a row lacks the input, is cared for and of its side, and its partner too, in the order of the definition
turn_tests : (lacking own partner here there : Bool)
    → ((lacking && (own && here)) && (lacking && (partner && there))) ≡ (own && (partner && (lacking && here && there)))
turn_tests true true true here there = refl
turn_tests true true false true there = refl
turn_tests true true false false there = refl
turn_tests true false partner here there = refl
turn_tests false true true here there = refl
turn_tests false true false here there = refl
turn_tests false false partner here there = refl

-- a row is cared for and of a side, wherever it stands
abbrev of_side : Table → Bool → ℕ → Bool
of_side t side r = cared t r && same_bool (value t r) side

-- the words have this of the table's rows, and none past them
side_in : (t : Table) (side : Bool) (r : ℕ) → r < rows t → on_side t side r ≡ of_side t side r
side_in t side r l = rw (lt-ltb r (rows t) l)

side_past : (t : Table) (side : Bool) (r : ℕ) → rows t ≤ r → on_side t side r ≡ false
side_past t side r l = rw (le-ltb r (rows t) l)

module _ (t : Table) (to : Bool) (place : ℕ) (k : place < t.n) where
  -- past the rows nothing turns
  turned_past : (r : ℕ) → rows t ≤ r → turned (on_side t) to place r ≡ false
  turned_past r l = rw (side_past t (not to) r l) (neither (lacks place r) (partner_at (on_side t to) place r))
    where
      neither : (lacking there : Bool) → ((lacking && false) && there) ≡ false
      neither true there = refl
      neither false there = refl

  -- on a row of the table it is the definition's test
  turned_in : (r : ℕ) → r < rows t → turned (on_side t) to place r ≡ turns_at (function_of t) to place r
  turned_in r l =
      by (lacks place r) refl
      ∙ turn_tests (lacks place r) (cared t r) (cared t (r + 2 ^ place)) (same_bool (value t r) (not to)) (same_bool (value t (r + 2 ^ place)) to)
      ∙ sym (table_turns t to place r)
    where
      by : (b : Bool) → lacks place r ≡ b → turned (on_side t) to place r ≡ turned (of_side t) to place r
      by true e =
          ap₂ (λ (own partner : Bool). (lacks place r && own) && (lacks place r && partner)) (side_in t (not to) r l)
          (side_in t to (r + 2 ^ place) (partner_below t.n r place k (eqb-true _ _ e) l))
      by false e = rw e refl

  -- where the search finds nothing, nothing turns
  turned_none : first_turn (function_of t) to place ≡ None → (r : ℕ) → Dec (rows t ≤ r) → turned (on_side t) to place r ≡ false
  turned_none o r (yes past) = turned_past r past
  turned_none o r (no before) = turned_in r (omega arith) ∙ first_turn_none (function_of t) to place o r (omega arith)

  -- where it finds a row, some row of the table turns
  turned_some : (q : ℕ) → first_turn (function_of t) to place ≡ Some q → ((r : ℕ) → r < rows t → turned (on_side t) to place r ≡ false) → ⊥
  turned_some q o fails =
      let first = first_turn_some (function_of t) to place q o in
      let inside : q < rows t = omega (arith, first.inside) in
      no_true (sym (fails q inside) ∙ turned_in q inside ∙ first.passes)

  -- the words of turns that the loop has gathered, of all the table's rows, are not 0 exactly if the search finds a turn
  pub turn_found : {x : ℕ} (m : ℕ) → rows t ≤ 64 * m → x ≡ packed 64 (gathered (turned (on_side t) to place) m) → not (eqb x 0) ≡ is_some (first_turn (function_of t) to place)
  turn_found {x} m all e = by (first_turn (function_of t) to place) refl
    where
      by : (o : Option ℕ) → first_turn (function_of t) to place ≡ o → not (eqb x 0) ≡ is_some (first_turn (function_of t) to place)
      by None o = rw (o, e, gather_zero (turned (on_side t) to place) m (λ r. turned_none o r (dec_le (rows t) r)))
      by (Some q) o =
          rw o
          (ap not
          (ne_eqb x 0 (λ z. turned_some q o (λ r l. zero_gathered (turned (on_side t) to place) m (sym e ∙ z) r (omega arith)))))
