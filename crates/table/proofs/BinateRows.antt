-- The four counts of a table's binate input: the lowest row where it rises, the lowest where it falls, and their partners differ, by their
-- values or by the input, so each has count 1 and no other row has a count. Assumes nothing.
use mathlib.Core.Path.{◌≡◌, refl, sym, ◌∙◌, ap}
use mathlib.Core.Logic.{◌≢◌}
use mathlib.Core.Bool.{Bool, true, false, ◌||◌}
use mathlib.Core.List.{List}
use Rattle.std.specs.Prelude.{Some}
use Prim.Native.Nat.{ℕ, zero, suc, ◌+◌, ◌^◌, ◌≤◌, ◌<◌}
use native.Mathlib.Decide.{ℕ_discrete}
use native.Mathlib.Omega.{arith}
use borrow.Author.Tests.{eq-eqb, ne_eqb}
use lib.Dec.{eqb}
use lib.ListN.{length, length-replicate}
use lib.Pow.{pow_pos}
use Rattle.numbers.proofs.TestLaws.{no_true, or_neither}
use Rattle.types.specs.declared.table.Table.{Table}
use Rattle.function.specs.Function.{level}
use Rattle.function.specs.Witness.{only_if, count_of, one_more, zeros}
use Rattle.function.specs.Turns.{first_turn}
use Rattle.function.specs.Binate.{binate_place, binate_counts}
use Rattle.function.proofs.FunctionLaws.{unit}
use Rattle.function.proofs.CountLaws.{length_one_more, one_more_same, one_more_other, get_d_zeros}
use Rattle.function.proofs.TurnLaws.{first_turn_turns, first_turn_rows}
use Rattle.function.proofs.BinateLaws.{binate_place_lt, binate_counts_pairs}
use Rattle.table.specs.Table.{value, function_of}
use Rattle.table.proofs.TableLaws.{rows_le, partner_level}

-- ---- counts of 1

or_false : (b : Bool) → (b || false) ≡ b
or_false true = refl
or_false false = refl

or_true : (b : Bool) → (b || true) ≡ true
or_true true = refl
or_true false = refl

-- the rows that pass a test have count 1, and the others none
abbrev Once : (ℕ → Bool) → List ℕ → Type 0
Once test counts = (q : ℕ) → count_of counts q ≡ only_if (test q) 1

-- one more count, at a row without one
once_more : (test : ℕ → Bool) (r : ℕ) (counts : List ℕ) → r < length counts → test r ≡ false → Once test counts
    → Once (λ q. test q || eqb q r) (one_more r counts)
once_more test r counts h fresh once q = by (ℕ_discrete q r)
  where
    by : Dec (q ≡ r) → count_of (one_more r counts) q ≡ only_if (test q || eqb q r) 1
    by (yes e) =
        rw (e, eq-eqb r r refl, or_true (test r))
        (one_more_same r counts h ∙ ap (λ (x : ℕ). x + 1) (once r ∙ ap (λ (b : Bool). only_if b 1) fresh))
    by (no n) = rw (ne_eqb q r n, or_false (test q)) (one_more_other r q counts n ∙ once q)

-- ---- the four rows

unit_same : (place : ℕ) → unit place place ≡ 1
unit_same zero = refl
unit_same (suc place) = unit_same place

module _ (t : Table) (place : ℕ) where
  -- rows of unequal values, or of unequal levels, differ
  value_apart : {x y : ℕ} → value t x ≡ true → value t y ≡ false → x ≢ y
  value_apart p n e = no_true (sym n ∙ sym (ap (value t) e) ∙ p)

  level_apart : {x y : ℕ} → level 2 x place ≡ 0 → level 2 y place ≡ 1 → x ≢ y
  level_apart p n e = let same = ap (λ (z : ℕ). level 2 z place) e in omega arith

  -- a partner has the input
  partner_has : (r : ℕ) → level 2 r place < 1 → level 2 (r + 2 ^ place) place ≡ 1
  partner_has r h = omega (arith, partner_level place place r (omega arith), unit_same place)

  -- the counts of a binate input: 1 at row r, the lowest where it rises, at row q, the lowest where it falls, and at their partners
  pub table_binate_counts : t.n ≤ 8 → binate_place (function_of t) ≡ Some place → (r q : ℕ) → first_turn (function_of t) true place ≡ Some r
      → first_turn (function_of t) false place ≡ Some q → (row : ℕ)
      → count_of (binate_counts (function_of t) place) row
      ≡ only_if (eqb row r || eqb row (r + 2 ^ place) || eqb row q || eqb row (q + 2 ^ place)) 1
  table_binate_counts few binate r q rises falls row =
      let f = function_of t in
      let below = binate_place_lt f place binate in
      let rise = first_turn_turns f true place r rises in
      let fall = first_turn_turns f false place q falls in
      let rise-rows = first_turn_rows f true place r below rises in
      let fall-rows = first_turn_rows f false place q below falls in
      let most = rows_le few in
      let positive = pow_pos place in
      let size = length-replicate {A = ℕ} 256 0 in
      let r' = r + 2 ^ place in
      let q' = q + 2 ^ place in
      let low-r : level 2 r place ≡ 0 = omega (arith, rise.below) in
      let low-q : level 2 q place ≡ 0 = omega (arith, fall.below) in
      let one = one_more r zeros in
      let two = one_more r' one in
      let three = one_more q two in
      let long-one = length_one_more r zeros in
      let long-two = length_one_more r' one in
      let long-three = length_one_more q two in
      let first = once_more (λ p. false) r zeros (omega arith) refl get_d_zeros in
      let second = once_more (λ p. eqb p r) r' one (omega arith) (ne_eqb r' r (λ e. omega arith)) first in
      let third =
      once_more (λ p. eqb p r || eqb p r') q two (omega arith)
      (or_neither (ne_eqb q r (value_apart fall.own rise.own)) (ne_eqb q r' (level_apart low-q (partner_has r rise.below))))
      second
      in
      let fresh : (eqb q' r || eqb q' r' || eqb q' q) ≡ false =
      or_neither
      (
      or_neither (ne_eqb q' r (λ e. level_apart low-r (partner_has q fall.below) (sym e)))
      (ne_eqb q' r' (λ e. value_apart rise.partner fall.partner (sym e)))
      )
      (ne_eqb q' q (λ e. omega arith))
      in
      rw (binate_counts_pairs f place, rises, falls) (once_more (λ p. eqb p r || eqb p r' || eqb p q) q' three (omega arith) fresh third row)
