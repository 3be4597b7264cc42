-- What an ended state shows, from soundness alone: a found state's v is a gate of its function, and the counts of a looped or binate state
-- balance, so that no gate exists. Looped: v = s, so the corrections counted add up to 0 in each component. Then of a job, on its table. The
-- last part says it in the checker's words: a sound job keeps the ranges of 7 and 8. Assumes nothing.
use Rattle.std.specs.Prelude.{Ok}
use mathlib.Core.Path.{◌≡◌, refl, sym, ◌∙◌, ap, subst}
use mathlib.Core.Logic.{◌⊎◌, inl, inr, ⊎_elim, ◌≢◌}
use mathlib.Core.Bool.{Bool, true, false, not}
use mathlib.Core.List.{List, []}
use Prim.Native.Nat.{ℕ, ◌-◌, ◌≤◌, ◌<◌}
use native.Mathlib.Decide.{dec_le}
use native.Mathlib.Omega.{arith}
use lib.IntN.{ℤ, pos, ◌+ℤ◌}
use lib.Signed.{le_z, lt_z}
use borrow.Author.Tests.{eq-eqb}
use Rattle.refusal.proofs.TableChecked.{all_kept, kept_inputs}
use Rattle.numbers.specs.Tests.{all_at_most}
use Rattle.numbers.proofs.Int.{integers, parts_add, parts_neg}
use Rattle.numbers.proofs.TestLaws.{not_passed, or_neither, all_at_most_at, all_at_most_from}
use Rattle.types.specs.declared.table.Table.{Table}
use Rattle.refusal.specs.Refusal.{NoneBroken, none, also}
use Rattle.cell.specs.Calls.{check_gate_rules, check_gate, check_witness_rules, check_witness}
use Rattle.refusal.specs.TableRules.{table_rules}
use Rattle.refusal.proofs.RefusalLaws.{none_broken_answered}
use Rattle.types.specs.declared.vector.Vector.{Vector}
use Rattle.job.specs.declared.job.Job.{Job}
use Rattle.types.specs.declared.stage.Stage.{Stage}
use Rattle.types.specs.declared.stage.Stage.TheVariants.{Found, Looped, Binate}
use Rattle.numbers.specs.Power.{highest}
use Rattle.job.specs.Sound.{mark_for, Sound}
use Rattle.job.specs.Calls.{gate_of, witness_of}
use Rattle.numbers.proofs.PowerLaws.{highest_le}
use Rattle.function.proofs.RangeLaws.{in_range_correct, in_range_wider}
use Rattle.job.proofs.SoundLaws.{sound_in_lem, sound_current, sound_count, sound_past}
use Rattle.types.specs.declared.state.State.{State}
use Rattle.table.specs.Table.{value, function_of}
use Rattle.table.specs.Gate.{weight_limit, beyond}
use Rattle.table.specs.Witness.{count_limit, unfit}
use Rattle.table.proofs.TableLaws.{rows_le}
use Rattle.sides.proofs.SideLaws.{side_terms_le}
use Rattle.function.specs.Function.{Function, levels, rows}
use Rattle.function.specs.Gate.{distance, Realises, realises}
use Rattle.function.specs.Witness.{side_sum, Balances, balances, count_of}
use Rattle.function.specs.Failing.{margin}
use Rattle.function.specs.Vector.{component}
use Rattle.function.specs.Binate.{binate_counts}
use Rattle.function.proofs.GateLaws.{realises_correct}
use Rattle.function.proofs.WitnessLaws.{side_sum_terms, side_sum_term, balances_correct}
use Rattle.function.proofs.Summability.{no_gate_lem}
use Rattle.function.proofs.FailingLaws.{failing_none, passes_margin}
use Rattle.function.proofs.BinateLaws.{binate_sums, binate_counts_balance}
use Rattle.state.specs.Sound as state
use Rattle.state.proofs.SoundBounds as bounds

-- ---- found

-- a distance whose margin is not below 1 has the row's sign
margin_agrees : (y : Bool) (d : ℤ) → lt_z (margin y d) (pos 1) ≡ false → le_z (pos 0) d ≡ y
margin_agrees true d e = omega integers
margin_agrees false d e = omega (integers, parts_neg d)

same_added : (c d : ℤ) (x y : ℕ) → c ≡ d → c +ℤ pos x ≡ d +ℤ pos y → x ≡ y
same_added c d x y same e = omega (integers, parts_add c (pos x), parts_add d (pos y))

-- the stages of an end without a gate
abbrev pub WithoutGate : Stage → Type 0
WithoutGate stage = (stage ≡ Looped) ⊎ (stage ≡ Binate)

module _ {f : Function} {x : State} (s : state.Sound f x) where
  -- a found state's weights and threshold realise its function
  pub state_realises : x.stage ≡ Found → Realises x.v.a x.v.b f
  state_realises e r h care =
      margin_agrees (f.value r) (distance x.v.a x.v.b (levels f r))
      (passes_margin f x.v r care (failing_none f x.v (bounds.sound_in_lem s Found e).2 r h))

  -- ---- looped

  side : Bool → ℕ → ℕ
  side y = side_sum f y (count_of x.counts)

  equal : x.stage ≡ Looped → (i : ℕ) → i ≤ f.places → side true i ≡ side false i
  unfolding side
  equal e i h =
      let (traced, unate, two, back) = bounds.sound_in_lem s Looped e in
      sym (same_added (component x.v i) (component x.s i) (side false i) (side true i) (ap (λ (u : Vector). component u i) back) (traced.sum i h))

  above : x.stage ≡ Looped → 0 < side true 0
  unfolding side
  above e =
      let (traced, unate, two, back) = bounds.sound_in_lem s Looped e in
      let mark : x.mark ≡ highest (x.k - 1) = s.mark ∙ ap (λ (y : Stage). mark_for y x.k) e in
      omega (arith, equal e 0 (omega arith), traced.total, highest_le (x.k - 1) (omega (arith, s.capped)))

  -- a looped state's counts balance
  looped_balances : x.stage ≡ Looped → Balances f (count_of x.counts)
  unfolding side
  looped_balances e = record { total = equal e 0 (omega arith); above = above e; inputs = λ i l h. equal e i h; cared = λ r h. s.cared r }

  -- a binate state's counts balance
  binate_balances : rows f ≤ 256 → x.stage ≡ Binate → Balances f (count_of x.counts)
  binate_balances few e =
      let (place, is, counts) = (bounds.sound_in_lem s Binate e).3 in
      subst (λ (l : List ℕ). Balances f (count_of l)) (sym counts) (binate_counts_balance f place few is)

  -- ---- no gate exists

  -- the counts of a state that has ended without a gate balance
  pub state_balances : rows f ≤ 256 → WithoutGate x.stage → Balances f (count_of x.counts)
  state_balances few = ⊎_elim looped_balances (binate_balances few)

  -- so no integer weights and threshold, of any size, realise its function
  pub state_excludes : rows f ≤ 256 → WithoutGate x.stage → (ws : List ℤ) (th : ℤ) → ¬ Realises ws th f
  state_excludes few e = no_gate_lem f (count_of x.counts) (state_balances few e)

-- ---- of a job

-- a found job's weights and threshold realise its table
pub found_realises : (j : Job) → Sound j → j.state.stage ≡ Found → Realises j.state.v.a j.state.v.b (function_of j.table)
found_realises j s e = state_realises s e

-- a job has ended without a gate
abbrev pub EndedWithout : Job → Type 0
EndedWithout j = WithoutGate j.state.stage

-- its counts balance
pub ended_balances : (j : Job) → j.table.n ≤ 8 → Sound j → EndedWithout j → Balances (function_of j.table) (count_of j.state.counts)
ended_balances j n s = state_balances s (rows_le n)

-- so no integer weights and threshold, of any size, realise its table
pub ended_excludes : (j : Job) → j.table.n ≤ 8 → Sound j → EndedWithout j → (ws : List ℤ) (th : ℤ) → ¬ Realises ws th (function_of j.table)
ended_excludes j n s = state_excludes s (rows_le n)

-- ---- in the checker's words

-- a sound job's gate keeps the range of 7
gate_in_range : (j : Job) → Sound j → beyond (gate_of j) ≡ false
gate_in_range j s =
    ap not ((in_range_correct weight_limit j.table.n j.state.v.a j.state.v.b).1 (in_range_wider weight_limit (omega (arith, s.capped)) (sound_current s)))

-- a found job's gate is accepted
pub found_accepted : (j : Job) → Sound j → NoneBroken (table_rules j.table []) → j.state.stage ≡ Found → check_gate j.table (gate_of j) ≡ Ok true
found_accepted j s kept e =
    none_broken_answered (check_gate_rules j.table (gate_of j)) (Ok (realises j.state.v.a j.state.v.b (function_of j.table)))
    (also (ap not (eq-eqb j.table.n j.table.n refl)) (all_kept j.table kept (also (gate_in_range j s) none)))
    ∙ ap Ok ((realises_correct j.state.v.a j.state.v.b (function_of j.table)).1 (found_realises j s e))

-- the counts of a job that has ended without a gate are within the limit
count_in_range : (j : Job) → j.table.n ≤ 8 → Sound j → EndedWithout j → (r : ℕ) → count_of j.state.counts r ≤ count_limit
count_in_range j n s (inl e) r = omega (arith, s.capped, sound_count j s (λ b. apart (sym e ∙ b)) r)
  where
    apart : Looped ≢ Binate
    apart b = let z : ◌≡◌ {A = ℕ} 0 1 = cc in omega arith
count_in_range j n s (inr e) r = by (dec_le (rows (function_of j.table)) r)
  where
    by : Dec (rows (function_of j.table) ≤ r) → count_of j.state.counts r ≤ count_limit
    by (yes h) = omega (arith, sound_past j s r h)
    by (no h) =
        let (place, is, counts) = (sound_in_lem Binate j s e).3 in
        let (sum, two, sums) = binate_sums (function_of j.table) place (rows_le n) is in
        let count = ap (λ (l : List ℕ). count_of l r) counts in
        let term = side_sum_term (function_of j.table) (count_of (binate_counts (function_of j.table) place)) 0 r (omega arith) in
        omega (arith, count, sums (value j.table r) 0, term)

-- counts that balance are not all 0, since their total is above 0
balances_some : (t : Table) (counts : List ℕ) → Balances (function_of t) (count_of counts) → all_at_most 0 counts ≡ false
balances_some t counts b = not_passed (all_at_most 0 counts) (λ e.
    omega (arith, b.above, side_sum_terms (function_of t) true (count_of counts) 0, side_terms_le t true (count_of counts) 0 0 (all_at_most_at 0 counts e) (rows (function_of t))))

-- so the job's witness keeps the range of 8
witness_in_range : (j : Job) → j.table.n ≤ 8 → Sound j → EndedWithout j → unfit j.table (witness_of j) ≡ false
unfolding unfit
witness_in_range j n s e =
    or_neither (or_neither (balances_some j.table j.state.counts (ended_balances j n s e))
    (ap not (all_at_most_from count_limit j.state.counts (λ r h. count_in_range j n s e r))))
    (ap not s.past)

-- the witness of a job that has ended without a gate is accepted
pub ended_accepted : (j : Job) → Sound j → NoneBroken (table_rules j.table []) → EndedWithout j → check_witness j.table (witness_of j) ≡ Ok true
ended_accepted j s kept e =
    let n = kept_inputs j.table kept in
    none_broken_answered (check_witness_rules j.table (witness_of j)) (Ok (balances (function_of j.table) (count_of j.state.counts)))
    (all_kept j.table kept (also (witness_in_range j n s e) none))
    ∙ ap Ok ((balances_correct (function_of j.table) (count_of j.state.counts)).1 (ended_balances j n s e))
