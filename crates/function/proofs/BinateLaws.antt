-- Laws of the binate input and its counts: the searches that make an input binate, the rows that have counts, and that the counts balance. A
-- row that turns has a partner with the same levels and the input one level higher. So a pair that rises gives the true rows one more of the
-- input than the false rows, and a pair that falls gives the false rows one more. Counts are added by ones, so the four rows need not
-- differ. Assumes nothing.
use mathlib.Core.Path.{◌≡◌, refl, sym, ◌∙◌}
use mathlib.Core.Bool.{Bool, true, false, not, ◌&&◌}
use mathlib.Core.List.{List}
use Rattle.std.specs.Prelude.{Option, Some, None}
use Prim.Native.Nat.{ℕ, zero, suc, ◌+◌, ◌≤◌, ◌<◌}
use native.Mathlib.Omega.{arith}
use lib.ListN.{length, get_or, drop, length-replicate}
use lib.Seq.{drop-set-lt}
use Rattle.numbers.specs.Tests.{same_bool, first_from}
use Rattle.std.specs.Prelude.{is_some}
use Rattle.numbers.proofs.FirstLaws.{first_some}
use Rattle.numbers.proofs.TestLaws.{no_true, and_left, and_right}
use Rattle.function.specs.Function.{Function, levels, rows, raised}
use Rattle.function.specs.Witness.{input_level, only_if, side_sum, Balances, count_of, one_more, zeros}
use Rattle.function.specs.Turns.{first_turn}
use Rattle.function.specs.Binate.{pair_more, binate_at, binate_place, binate_counts}
use Rattle.function.proofs.FunctionLaws.{unit, raised_level, cared_apart}
use Rattle.function.proofs.CountLaws.{length_one_more, one_more_other, length_pair_more, get_d_zeros}
use Rattle.function.proofs.WitnessLaws.{side_sum_one_more, side_sum_zeros}
use Rattle.function.proofs.TurnLaws.{first_turn_turns, first_turn_rows}

-- ---- the searches

module _ (f : Function) where
  -- what a place's input is binate by: its two searches
  pub binate_at_searches : (place : ℕ) → binate_at f place ≡ (is_some (first_turn f true place) && is_some (first_turn f false place))
  unfolding binate_at
  binate_at_searches place = refl

  -- the lowest binate place is a search through the inputs
  pub binate_place_search : binate_place f ≡ first_from (binate_at f) f.places 0
  unfolding binate_place
  binate_place_search = refl

  -- it is one of the inputs
  pub binate_place_lt : (place : ℕ) → binate_place f ≡ Some place → place < f.places
  binate_place_lt place e = omega (arith, (first_some (binate_at f) f.places 0 place (sym binate_place_search ∙ e)).inside)

  -- the counts are those of the two searches' pairs, one on top of the other
  pub binate_counts_pairs : (place : ℕ)
      → binate_counts f place ≡ pair_more (suc f.top) place (first_turn f false place) (pair_more (suc f.top) place (first_turn f true place) zeros)
  unfolding binate_counts
  binate_counts_pairs place = refl

  -- there are 256 of them
  pub length_binate_counts : (place : ℕ) → length (binate_counts f place) ≡ 256
  unfolding binate_counts
  length_binate_counts place =
      length_pair_more (suc f.top) place (first_turn f false place) (pair_more (suc f.top) place (first_turn f true place) zeros)
      ∙ length_pair_more (suc f.top) place (first_turn f true place) zeros
      ∙ length-replicate {A = ℕ} 256 0

-- ---- the rows that have counts

module _ (f : Function) (to : Bool) (place : ℕ) where
  -- a pair leaves the counts past the rows as they were
  pair_past : (o : Option ℕ) (counts : List ℕ) → place < f.places → first_turn f to place ≡ o
      → drop (rows f) (pair_more (suc f.top) place o counts) ≡ drop (rows f) counts
  pair_past None counts h e = refl
  pair_past (Some r) counts h e =
      let both = first_turn_rows f to place r h e in
      let first = one_more r counts in
      drop-set-lt (rows f) first (raised f place r) (get_or first (raised f place r) 0 + 1) both.1
      ∙ drop-set-lt (rows f) counts r (get_or counts r 0 + 1) both.0

  -- and those of the rows that are not cared for
  pair_cared : (o : Option ℕ) (counts : List ℕ) (q : ℕ) → first_turn f to place ≡ o → f.cared q ≡ false
      → get_or (pair_more (suc f.top) place o counts) q 0 ≡ get_or counts q 0
  pair_cared None counts q e free = refl
  pair_cared (Some r) counts q e free =
      let turn = first_turn_turns f to place r e in
      one_more_other (raised f place r) q (one_more r counts) (cared_apart f free turn.partner_cared)
      ∙ one_more_other r q counts (cared_apart f free turn.cared)

module _ (f : Function) (place : ℕ) where
  rises : List ℕ
  rises = pair_more (suc f.top) place (first_turn f true place) zeros

  -- a binate input's counts past the rows are those of `zeros`
  pub binate_counts_past : place < f.places → drop (rows f) (binate_counts f place) ≡ drop (rows f) zeros
  unfolding binate_counts rises
  binate_counts_past h =
      pair_past f false place (first_turn f false place) rises h refl ∙ pair_past f true place (first_turn f true place) zeros h refl

  -- and so are those of the rows that are not cared for
  pub binate_counts_cared : (r : ℕ) → f.cared r ≡ false → count_of (binate_counts f place) r ≡ 0
  unfolding binate_counts rises
  binate_counts_cared r free =
      pair_cared f false place (first_turn f false place) rises r refl free
      ∙ pair_cared f true place (first_turn f true place) zeros r refl free
      ∙ get_d_zeros r

-- ---- the sums of a pair

-- what the place's input has more in a partner, as an input
abbrev gain : ℕ → ℕ → ℕ
gain place zero = 0
gain place (suc other) = unit place other

partner_input : (f : Function) (place r i : ℕ) → levels f r place < f.top
    → input_level (levels f (raised f place r)) i ≡ input_level (levels f r) i + gain place i
partner_input f place r zero e = refl
partner_input f place r (suc other) e = raised_level f.top place other r e

-- one row of a pair counts on each side
pair_terms : (to side : Bool) (x l g : ℕ) → x + only_if (same_bool (not to) side) l + only_if (same_bool to side) (l + g) ≡ x + l + only_if (same_bool to side) g
pair_terms true true x l g = omega arith
pair_terms true false x l g = omega arith
pair_terms false true x l g = omega arith
pair_terms false false x l g = omega arith

module _ (f : Function) (few : rows f ≤ 256) (place : ℕ) (below : place < f.places) where
  -- the first turn gives both sides the levels of its row, and its own side the input besides
  turn_sum : (to side : Bool) (r : ℕ) (counts : List ℕ) (i : ℕ) → length counts ≡ 256 → first_turn f to place ≡ Some r
      → side_sum f side (count_of (pair_more (suc f.top) place (Some r) counts)) i
      ≡ side_sum f side (count_of counts) i + input_level (levels f r) i + only_if (same_bool to side) (gain place i)
  turn_sum to side r counts i size e =
      let turn = first_turn_turns f to place r e in
      let (row, partner) = first_turn_rows f to place r below e in
      rw (
        side_sum_one_more f side (one_more r counts) i (raised f place r) partner (omega (arith, length_one_more r counts)),
        side_sum_one_more f side counts i r row (omega arith),
        turn.own,
        turn.partner,
        partner_input f place r i turn.below,
      )
      (pair_terms to side (side_sum f side (count_of counts) i) (input_level (levels f r) i) (gain place i))

  -- a turn each way gives both sides the same
  binate_sum : (side : Bool) (r q i : ℕ) → first_turn f true place ≡ Some r → first_turn f false place ≡ Some q
      → side_sum f side (count_of (binate_counts f place)) i ≡ input_level (levels f r) i + input_level (levels f q) i + gain place i
  unfolding binate_counts
  binate_sum side r q i rises falls =
      let None = length-replicate {A = ℕ} 256 0 in
      rw (
        rises,
        falls,
        turn_sum false side q (pair_more (suc f.top) place (Some r) zeros) i (length_pair_more (suc f.top) place (Some r) zeros ∙ None) falls,
        turn_sum true side r zeros i None rises,
        side_sum_zeros f side i,
      )
      (by side (input_level (levels f r) i) (input_level (levels f q) i) (gain place i))
    where
      by : (y : Bool) (l k g : ℕ) → 0 + l + only_if (same_bool true y) g + k + only_if (same_bool false y) g ≡ l + k + g
      by true l k g = omega arith
      by false l k g = omega arith

-- ---- the balance

found_some : (o : Option ℕ) → is_some o ≡ true → (r : ℕ) × (o ≡ Some r)
found_some None e = absurd (no_true e)
found_some (Some r) e = (r, refl)

-- both sides of a binate input's counts have the same sums, of total 2
pub binate_sums : (f : Function) (place : ℕ) → rows f ≤ 256 → binate_place f ≡ Some place
    → (sum : ℕ → ℕ) × (sum 0 ≡ 2) × ((side : Bool) (i : ℕ) → side_sum f side (count_of (binate_counts f place)) i ≡ sum i)
unfolding binate_place binate_at
binate_sums f place few e =
    let is = first_some (binate_at f) f.places 0 place e in
    let rise = first_turn f true place in
    let fall = first_turn f false place in
    let (r, rises) = found_some rise (and_left (is_some rise) (is_some fall) is.passes) in
    let (q, falls) = found_some fall (and_right (is_some rise) (is_some fall) is.passes) in (
      λ i. input_level (levels f r) i + input_level (levels f q) i + gain place i,
      refl,
      λ side i. binate_sum f few place (omega (arith, is.inside)) side r q i rises falls,
    )

-- so they balance
pub binate_counts_balance : (f : Function) (place : ℕ) → rows f ≤ 256 → binate_place f ≡ Some place → Balances f (count_of (binate_counts f place))
binate_counts_balance f place few e =
    let (sum, two, sums) = binate_sums f place few e in
    record {
      total = sums true 0 ∙ sym (sums false 0);
      above = omega (arith, sums true 0);
      inputs = λ i l h. sums true i ∙ sym (sums false i);
      cared = λ r h. binate_counts_cared f place r;
    }
