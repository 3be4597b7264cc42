-- The counts that a row list can hold, row by row: 256 of them, each within the limit, 0 past the table. Reading starts with all 0 and
-- sets a row at a time. Assumes nothing.
use mathlib.Core.Path.{◌≡◌, sym, ◌∙◌}
use mathlib.Core.Bool.{true, false}
use mathlib.Core.List.{List}
use Prim.Native.Nat.{ℕ, ◌+◌, ◌-◌, ◌≤◌, ◌<◌}
use native.Mathlib.Decide.{ℕ_discrete}
use native.Mathlib.Omega.{arith}
use lib.ListN.{length, drop, set, length-set, length-replicate}
use lib.Seq.{get_or-drop, get_or-set_same, get_or-set_other}
use Rattle.numbers.specs.Tests.{all_at_most}
use Rattle.numbers.proofs.TestLaws.{no_true, not_passed, all_at_most_at, all_at_most_from}
use Rattle.table.specs.Witness.{count_limit}
use Rattle.function.specs.Witness.{count_of, zeros}
use Rattle.function.proofs.CountLaws.{get_d_zeros}
use Rattle.codec.specs.RowList.{filled_from}
use Rattle.codec.proofs.PairLaws.{filled_add, filled_most, filled_clear, clear_filled}

-- counts that a row list of a table of so many rows can hold
pub record Listed (rows : ℕ) (counts : List ℕ) : Type 0 where
  pub long : length counts ≡ 256
  pub limit : (i : ℕ) → count_of counts i ≤ count_limit
  pub past : (i : ℕ) → rows ≤ i → count_of counts i ≡ 0

-- what the tests of the limit and of the rows past the table say
pub listed : (rows : ℕ) (counts : List ℕ) → length counts ≡ 256 → all_at_most count_limit counts ≡ true → all_at_most 0 (drop rows counts) ≡ true
    → Listed rows counts
listed rows counts long limit past =
    record {
      long = long;
      limit = all_at_most_at count_limit counts limit;
      past = λ i h.
          let behind : count_of counts (rows + (i - rows)) ≤ 0 = rw get_or-drop at (all_at_most_at 0 (drop rows counts) past (i - rows)) in
          let place : rows + (i - rows) ≡ i = omega arith in
          omega (arith, rw place at behind);
    }

-- listed counts pass the test of the limit
pub listed_limit : {rows : ℕ} {counts : List ℕ} → Listed rows counts → all_at_most count_limit counts ≡ true
listed_limit {counts = counts} l = all_at_most_from count_limit counts (λ i h. l.limit i)

-- and that of the rows past the table
pub listed_past : {rows : ℕ} {counts : List ℕ} → Listed rows counts → all_at_most 0 (drop rows counts) ≡ true
listed_past {rows} {counts} l =
    all_at_most_from 0 (drop rows counts) (λ i h. rw (get_or-drop rows counts i 0) (omega (arith, l.past (rows + i) (omega arith))))

-- counts of 0 are listed
pub listed_zeros : (rows : ℕ) → Listed rows zeros
listed_zeros rows =
    record { long = length-replicate {A = ℕ} 256 0; limit = λ i. omega (arith, get_d_zeros i); past = λ i h. get_d_zeros i }

-- what holds of a count that is set, and of each other count as it was, holds of each after it
pub set_each : (P : ℕ → ℕ → Type 0) (c : List ℕ) (row x : ℕ) → row < length c → P row x
    → ((i : ℕ) → (i ≡ row → ⊥) → P i (count_of c i)) → (i : ℕ) → P i (count_of (set c row x) i)
set_each P c row x h here others i =
    elim (ℕ_discrete i row) [
      | yes p ↦ rw (p, get_or-set_same c row x 0) here
      | no n ↦ rw get_or-set_other (others i n)
    ]

-- a count within the limit, set at a row of the table
pub listed_set : {rows : ℕ} {c : List ℕ} (row x : ℕ) → row < rows → rows ≤ 256 → x ≤ count_limit → Listed rows c → Listed rows (set c row x)
listed_set {rows} {c} row x h m k l =
    record {
      long = length-set c row x ∙ l.long;
      limit = set_each (λ i y. y ≤ count_limit) c row x (omega (arith, l.long)) k (λ i n. l.limit i);
      past = set_each (λ i y. rows ≤ i → y ≡ 0) c row x (omega (arith, l.long)) (λ p. absurd (omega arith)) (λ i n. l.past i);
    }

-- listed counts have at most as many pairs as the table has rows
pub listed_most : {rows : ℕ} {counts : List ℕ} → rows ≤ 256 → Listed rows counts → filled_from counts 256 0 ≤ rows
listed_most {rows} {counts} h l =
    let whole : rows + (256 - rows) ≡ 256 = omega arith in
    let parts = rw whole at (filled_add counts rows (256 - rows) 0) in
    omega (arith, parts, filled_most counts rows 0, filled_clear counts (256 - rows) (0 + rows) (λ i p q. l.past i (omega arith)))

-- counts that are not all 0 have a pair
pub some_filled : {rows : ℕ} {counts : List ℕ} → Listed rows counts → all_at_most 0 counts ≡ false → 0 < filled_from counts 256 0
some_filled {counts = counts} l e =
    elim (ℕ_discrete (filled_from counts 256 0) 0) [
      | yes z ↦
          let clear = clear_filled counts 256 0 z in
          let all = all_at_most_from 0 counts (λ i h. omega (arith, clear i (omega arith) (omega (arith, l.long)))) in
          absurd (no_true (sym e ∙ all))
      | no n ↦ omega arith
    ]

-- counts that have a pair are not all 0
pub filled_some : (counts : List ℕ) → 0 < filled_from counts 256 0 → all_at_most 0 counts ≡ false
filled_some counts h =
    not_passed (all_at_most 0 counts) (λ e. omega (arith, filled_clear counts 256 0 (λ i p q. omega (arith, all_at_most_at 0 counts e i))))
