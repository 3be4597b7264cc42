-- The fresh state is sound. Where no input is binate it is open if a row fails, and found if none does. Where one is, the four rows that have
-- counts are rows of the function, and cared for. Assumes nothing.
use mathlib.Core.Path.{◌≡◌, refl, sym, ◌∙◌, ap, subst}
use Rattle.std.specs.Prelude.{Option, Some, None}
use Prim.Native.Nat.{ℕ, ◌*◌}
use native.Mathlib.Omega.{arith}
use lib.ListN.{length-replicate}
use Rattle.function.specs.Witness.{zeros}
use Rattle.numbers.specs.Tests.{all_at_most}
use Rattle.types.specs.declared.stage.Stage.TheVariants.{Open, Found, Binate}
use Rattle.function.specs.Function.{Function, rows}
use Rattle.function.specs.Failing.{failing}
use Rattle.function.specs.Binate.{binate_place, binate_counts}
use Rattle.function.specs.Vector.{zero_vector}
use Rattle.function.proofs.CountLaws.{get_d_zeros}
use Rattle.function.proofs.BinateLaws.{binate_place_lt, length_binate_counts, binate_counts_past, binate_counts_cared}
use Rattle.numbers.proofs.PowerLaws.{highest_zero}
use Rattle.function.proofs.RangeLaws.{in_range_correct, zero_in_range}
use Rattle.state.specs.Machine.{start_state, fresh}
use Rattle.state.specs.Sound.{Ranged, Sound}
use Rattle.state.proofs.MachineLaws.{fresh_open, fresh_found, fresh_binate}
use Rattle.state.proofs.TraceLaws.{marked_traced}
use Rattle.state.proofs.StepSound.{Common, stage_sound, zeros_past}

module _ (f : Function) where
  -- ---- no input is binate

  -- what the stages ask alike, of a start without counts
  start_common : binate_place f ≡ None → Common f (start_state zeros Open)
  start_common e = record {
    shaped = record { weights = refl; copied = refl; counts = length-replicate {A = ℕ} 256 0 };
    capped = omega arith;
    current = zero_in_range (f.top * 0) f.places;
    copied = zero_in_range (f.top * 0) f.places;
    cared = λ r free. get_d_zeros r;
    past = zeros_past (rows f);
    traced = marked_traced f (start_state zeros Open) refl refl refl;
    unate = e;
  }

  open_sound : (r : ℕ) → binate_place f ≡ None → failing f zero_vector ≡ Some r → Sound f (start_state zeros Open)
  open_sound r e first =
      stage_sound f Open (start_state zeros Open) (start_common e) (sym highest_zero) (λ traced. (traced, e, (r, first), λ same. zeros_past 0))

  found_sound : binate_place f ≡ None → failing f zero_vector ≡ None → Sound f (start_state zeros Found)
  found_sound e first = stage_sound f Found (start_state zeros Open) (start_common e) (sym highest_zero) (λ traced. (traced, e, first))

  -- ---- an input is binate

  zero_ranged : Ranged (f.top * 0) f.places zero_vector
  zero_ranged = (in_range_correct (f.top * 0) f.places zero_vector.a zero_vector.b).1 (zero_in_range (f.top * 0) f.places)

  binate_sound : (place : ℕ) → binate_place f ≡ Some place → Sound f (start_state (binate_counts f place) Binate)
  binate_sound place e = record {
    shaped = record { weights = refl; copied = refl; counts = length_binate_counts f place };
    capped = omega arith;
    current = zero_ranged;
    copied = zero_ranged;
    cared = binate_counts_cared f place;
    past = ap (all_at_most 0) (binate_counts_past f place (binate_place_lt f place e)) ∙ zeros_past (rows f);
    mark = sym highest_zero;
    staged = (refl, refl, refl, (place, e, refl));
  }

  -- the fresh state is sound
  pub fresh_sound : Sound f (fresh f)
  fresh_sound = by (binate_place f) refl (failing f zero_vector) refl
    where
      by : (o : Option ℕ) → binate_place f ≡ o → (first : Option ℕ) → failing f zero_vector ≡ first → Sound f (fresh f)
      by None e None g = subst (Sound f) (sym (fresh_found f e g)) (found_sound e g)
      by None e (Some r) g = subst (Sound f) (sym (fresh_open f r e g)) (open_sound r e g)
      by (Some place) e first g = subst (Sound f) (sym (fresh_binate f place e)) (binate_sound place e)
