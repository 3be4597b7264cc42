-- A sound job: the computed test `is_sound` with its meaning, both directions, part by part. Assumes nothing.
use mathlib.Core.Path.{◌≡◌, refl, sym, ◌∙◌, ap}
use mathlib.Core.Logic.{◌↔◌}
use mathlib.Core.Bool.{Bool, true, false, not, ◌&&◌}
use Rattle.std.specs.Prelude.{Option, Some, None}
use Prim.Native.Nat.{ℕ, suc, ◌+◌, ◌≤◌}
use native.Mathlib.Decide.{dec_le}
use native.Mathlib.Omega.{arith}
use lib.Dec.{leb, eqb}
use lib.ListN.{length, drop}
use lib.IntN.{ℤ, pos, ◌+ℤ◌}
use borrow.Author.Tests.{leb-true, le-leb, eqb-true, eq-eqb}
use Rattle.numbers.specs.Tests.{all_at_most, all_below, same_z}
use Rattle.std.specs.Prelude.{is_some}
use Rattle.numbers.proofs.TestLaws.{no_true, and_left, and_right, and_both, where_passed, all_below_at, all_below_from, same_z_correct}
use Rattle.function.specs.Witness.{same_counts}
use Rattle.function.proofs.CountLaws.{same_counts_correct}
use Rattle.types.specs.declared.state.State.{State}
use Rattle.types.specs.declared.stage.Stage.{Stage}
use Rattle.types.specs.declared.stage.Stage.TheVariants.{Open, Found, Looped, Binate}
use Rattle.function.specs.Function.{Function, rows}
use Rattle.function.specs.Witness.{side_sum, count_of, counts_cared}
use Rattle.function.specs.Failing.{failing}
use Rattle.function.specs.Binate.{binate_place, binate_counts}
use Rattle.function.specs.Vector.{same_vector, zero_vector, component}
use Rattle.function.proofs.WitnessLaws.{counts_cared_correct}
use Rattle.function.proofs.BinateLaws.{length_binate_counts}
use Rattle.state.specs.Sound.{Shaped, Traced, SoundIn, Sound, is_shaped, is_traced, is_binate_with, sound_in, is_sound}
use Rattle.state.proofs.SoundBounds.{past_none}
use Rattle.function.proofs.VectorLaws.{same_vector_correct}

-- ---- tests and what they say

-- tests that are passed together mean what each means: of two, of three and of four
and_two : {a b : Bool} {A B : Type 0} → (a ≡ true ↔ A) → (b ≡ true ↔ B) → (a && b) ≡ true ↔ (A × B)
and_two {a} {b} f g = (λ e. (f.0 (and_left a b e), g.0 (and_right a b e)), λ p. and_both (f.1 p.0) (g.1 p.1))

and_three : {a b c : Bool} {A B C : Type 0} → (a ≡ true ↔ A) → (b ≡ true ↔ B) → (c ≡ true ↔ C) → (a && b && c) ≡ true ↔ (A × B × C)
and_three {a} {b} {c} f g h =
    let fg = and_two f g in (
      λ e. (let p = fg.0 (and_left (a && b) c e) in (p.0, p.1, h.0 (and_right (a && b) c e))),
      λ p. and_both (fg.1 (p.0, p.1)) (h.1 p.2),
    )

and_four : {a b c d : Bool} {A B C D : Type 0} → (a ≡ true ↔ A) → (b ≡ true ↔ B) → (c ≡ true ↔ C) → (d ≡ true ↔ D)
    → (a && b && c && d) ≡ true ↔ (A × B × C × D)
and_four {a} {b} {c} {d} f g h k =
    let fgh = and_three f g h in (
      λ e. (let p = fgh.0 (and_left (a && b && c) d e) in (p.0, p.1, p.2, k.0 (and_right (a && b && c) d e))),
      λ p. and_both (fgh.1 (p.0, p.1, p.2)) (k.1 p.3),
    )

is_equal : (m n : ℕ) → eqb m n ≡ true ↔ m ≡ n
is_equal m n = (eqb-true m n, eq-eqb m n)

is_at_most : (m n : ℕ) → leb m n ≡ true ↔ m ≤ n
is_at_most m n = (leb-true m n, le-leb m n)

is_some_lem : (o : Option ℕ) → is_some o ≡ true ↔ ((r : ℕ) × (o ≡ Some r))
is_some_lem None = (λ e. absurd (no_true e), λ p. absurd (no_true (ap is_some p.1)))
is_some_lem (Some r) = (λ e. (r, refl), λ p. refl)

is_none : (o : Option ℕ) → not (is_some o) ≡ true ↔ o ≡ None
is_none None = (λ e. refl, λ e. refl)
is_none (Some r) = (λ e. absurd (no_true e), λ e. absurd (no_true (sym (ap is_some e))))

-- ---- the parts

shaped_correct : (x : State) → is_shaped x ≡ true ↔ Shaped x
shaped_correct x =
    let lengths = and_three (is_equal (length x.v.a) 8) (is_equal (length x.s.a) 8) (is_equal (length x.counts) 256) in (
      λ e. (let p = lengths.0 e in record { weights = p.0; copied = p.1; counts = p.2 }),
      λ s. lengths.1 (s.weights, s.copied, s.counts),
    )

module _ (f : Function) where
  -- the counts add up to K − M, and v is s plus the corrections
  pub traced_correct : (x : State) → is_traced f x ≡ true ↔ Traced f x
  unfolding is_traced
  traced_correct x =
      let parts = and_two (is_equal total x.k) sums in
      (λ e. record { total = (parts.0 e).0; sum = (parts.0 e).1 }, λ traced. parts.1 (traced.total, traced.sum))
    where
      side : Bool → ℕ → ℕ
      side = λ y. side_sum f y (count_of x.counts)

      total : ℕ
      total = side true 0 + side false 0 + x.mark

      left : ℕ → ℤ
      left i = component x.v i +ℤ pos (side false i)

      right : ℕ → ℤ
      right i = component x.s i +ℤ pos (side true i)

      sums : all_below (suc f.places) (λ i. same_z (left i) (right i)) ≡ true ↔ ((i : ℕ) → i ≤ f.places → left i ≡ right i)
      sums = (
        λ e i h. (same_z_correct (left i) (right i)).0 (all_below_at (suc f.places) (λ p. same_z (left p) (right p)) e i (omega arith)),
        λ sum. all_below_from (suc f.places) (λ p. same_z (left p) (right p)) (λ i h. (same_z_correct (left i) (right i)).1 (sum i (omega arith))),
      )

  binate_with_correct : (o : Option ℕ) (x : State) → length x.counts ≡ 256
      → is_binate_with f o x.counts ≡ true ↔ ((place : ℕ) × (o ≡ Some place) × (x.counts ≡ binate_counts f place))
  binate_with_correct None x n = (λ e. absurd (no_true e), λ p. absurd (no_true (ap is_some p.1)))
  binate_with_correct (Some place) x n = (
    λ e. (place, refl, same.0 e),
    λ p. same.1 (p.2 ∙ ap (binate_counts f) (sym (some_same p.1))),
  )
    where
      same : same_counts x.counts (binate_counts f place) ≡ true ↔ x.counts ≡ binate_counts f place
      same = same_counts_correct x.counts (binate_counts f place) n (length_binate_counts f place)

      some_same : {p q : ℕ} → Some p ≡ Some q → p ≡ q
      some_same e = cc

  -- what the stage asks
  sound_in_correct : (stage : Stage) (x : State) → length x.counts ≡ 256 → sound_in f stage x ≡ true ↔ SoundIn f stage x
  unfolding sound_in
  sound_in_correct Open x n =
      and_four (traced_correct x) (is_none (binate_place f)) (is_some_lem (failing f x.v))
      (where_passed (same_vector x.v x.s) (all_at_most 0 x.counts) (same_vector_correct x.v x.s))
  sound_in_correct Found x n = and_three (traced_correct x) (is_none (binate_place f)) (is_none (failing f x.v))
  sound_in_correct Looped x n =
      and_four (traced_correct x) (is_none (binate_place f)) (is_at_most 2 x.k) (same_vector_correct x.v x.s)
  sound_in_correct Binate x n =
      and_four (is_equal x.k 0) (same_vector_correct x.v zero_vector) (same_vector_correct x.s zero_vector)
      (binate_with_correct (binate_place f) x n)

  -- only rows that are cared for have a count, where those past the last have none
  cared_correct : (x : State) → all_at_most 0 (drop (rows f) x.counts) ≡ true
      → counts_cared f (count_of x.counts) ≡ true ↔ ((r : ℕ) → f.cared r ≡ false → count_of x.counts r ≡ 0)
  cared_correct x past = (λ e r c. by e r c (dec_le (rows f) r), λ None. (counts_cared_correct f (count_of x.counts)).1 (λ r h. None r))
    where
      by : counts_cared f (count_of x.counts) ≡ true → (r : ℕ) → f.cared r ≡ false → Dec (rows f ≤ r) → count_of x.counts r ≡ 0
      by e r c (yes h) = past_none (rows f) x.counts past r h
      by e r c (no h) = (counts_cared_correct f (count_of x.counts)).0 e r (omega arith) c

  -- the test of a sound job says so
  pub is_sound_correct : (x : State) → is_sound f x ≡ true ↔ Sound f x
  unfolding is_sound
  is_sound_correct x = (
    λ e. (
        let (to-mark, ended) = both _ _ e in
        let (to-past, mark) = both _ _ to-mark in
        let (to-cared, past) = both _ _ to-past in
        let (to-copied, cared) = both _ _ to-cared in
        let (to-current, copied) = both _ _ to-copied in
        let (to-capped, current) = both _ _ to-current in
        let (shape, capped) = both _ _ to-capped in
        let shaped = (shaped_correct x).0 shape in
        record {
          shaped = shaped;
          capped = leb-true _ _ capped;
          current = current;
          copied = copied;
          cared = (cared_correct x past).0 cared;
          past = past;
          mark = eqb-true _ _ mark;
          staged = (sound_in_correct x.stage x shaped.counts).0 ended;
        }),
    λ s. (
        let capped = and_both ((shaped_correct x).1 s.shaped) (le-leb _ _ s.capped) in
        let ranged = and_both (and_both capped s.current) s.copied in
        let cared = and_both ranged ((cared_correct x s.past).1 s.cared) in
        let marked = and_both (and_both cared s.past) (eq-eqb _ _ s.mark) in
        and_both marked ((sound_in_correct x.stage x s.shaped.counts).1 s.staged)),
  )
    where
      both : (a b : Bool) → (a && b) ≡ true → (a ≡ true) × (b ≡ true)
      both a b e = (and_left a b e, and_right a b e)
