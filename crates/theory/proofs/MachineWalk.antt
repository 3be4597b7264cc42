-- The machine is a perceptron: its v comes of K corrections of the vector 0, each by a row that is cared for and at which the margin is at
-- most 0. The invariant is of K and v alone; a step that corrects by no row, and what follows a correction, leave them as they are.
-- Assumes nothing.
use mathlib.Core.Path.{◌≡◌, refl, ◌∙◌}
use mathlib.Core.Bool.{Bool, true, false}
use Rattle.std.specs.Prelude.{Option, Some, None}
use Prim.Native.Nat.{ℕ, zero, suc, ◌+◌, ◌<◌}
use native.Mathlib.Numerals.{add-one}
use native.Mathlib.Omega.{arith}
use lib.Dec.{eqb}
use lib.ListN.{length, get_or-replicate}
use lib.IntN.{ℤ, pos}
use lib.Signed.{◌≤ℤ◌}
use Rattle.numbers.proofs.Int.{integers}
use Rattle.types.specs.declared.vector.Vector.{Vector}
use Rattle.types.specs.declared.stage.Stage.{Stage}
use Rattle.types.specs.declared.stage.Stage.TheVariants.{Open, Found, Looped, Binate}
use Rattle.types.specs.declared.state.State.{State}
use Rattle.function.specs.Function.{Function, levels, rows}
use Rattle.function.specs.Gate.{distance}
use Rattle.function.specs.Failing.{fails, failing}
use Rattle.function.specs.Vector.{corrected_by, same_vector, zero_vector, component}
use Rattle.function.specs.Binate.{binate_place}
use Rattle.function.proofs.VectorLaws.{length_corrected, component_corrected}
use Rattle.function.proofs.FailingLaws.{failing_some, fails_cared, fails_margin}
use Rattle.numbers.specs.Power.{highest}
use Rattle.state.specs.Machine.{fresh_by, fresh, mark_if, marked, settle_by, corrected, settled, close_if, closed, step_by, step_in, step, run}
use Rattle.theory.proofs.Perceptron.{dot, Added, Walk, start, more}
use Rattle.theory.proofs.Corrections.{correction, correction_dot}

-- ---- facts of K and v

module _ (f : Function) (P : ℕ → Vector → Type 0)
    (keeps : (k : ℕ) (v : Vector) (r : ℕ) → failing f v ≡ Some r → P k v → P (k + 1) (corrected_by (f.value r) (levels f r) v)) where
  -- the fact, of a state
  abbrev pub Holds : State → Type 0
  Holds x = P x.k x.v

  mark_keeps : (b : Bool) (x : State) → Holds x → Holds (mark_if b x)
  mark_keeps true x p = p
  mark_keeps false x p = p

  settle_keeps : (o : Option ℕ) (x : State) → Holds x → Holds (settle_by o x)
  settle_keeps None x p = p
  settle_keeps (Some r) x p = p

  close_keeps : (b : Bool) (x : State) → Holds x → Holds (close_if f b x)
  unfolding settled marked
  close_keeps true x p = p
  close_keeps false x p = settle_keeps (failing f (marked x).v) (marked x) (mark_keeps (eqb (highest x.k) x.k) x p)

  step_by_keeps : (o : Option ℕ) (x : State) → failing f x.v ≡ o → Holds x → Holds (step_by f o x)
  unfolding corrected closed
  step_by_keeps None x e p = p
  step_by_keeps (Some r) x e p = close_keeps (same_vector (corrected f r x).v x.s) (corrected f r x) (keeps x.k x.v r e p)

  step_in_keeps : (s : Stage) (x : State) → Holds x → Holds (step_in f s x)
  unfolding step_in
  step_in_keeps Open x p = step_by_keeps (failing f x.v) x refl p
  step_in_keeps Found x p = p
  step_in_keeps Looped x p = p
  step_in_keeps Binate x p = p

  -- a fact of K and v that a correction by the lowest failing row keeps is kept by a run
  pub run_keeps : (m : ℕ) (x : State) → Holds x → Holds (run f m x)
  unfolding run step
  run_keeps zero x p = p
  run_keeps (suc m) x p = run_keeps m (step f x) (step_in_keeps x.stage x p)

  fresh_by_keeps : (o : Option ℕ) → P 0 zero_vector → Holds (fresh_by f o)
  fresh_by_keeps None p = p
  fresh_by_keeps (Some place) p = p

  -- so it holds after a run of the fresh state where it holds of K 0 and v 0
  pub fresh_keeps : (m : ℕ) → P 0 zero_vector → Holds (run f m (fresh f))
  unfolding fresh
  fresh_keeps m p = run_keeps m (fresh f) (fresh_by_keeps (binate_place f) p)

-- ---- the walk

module _ (f : Function) where
  -- a row that may be corrected by: one of the rows that are cared for
  abbrev pub Row : ℕ → Type 0
  Row r = (r < rows f) × (f.cared r ≡ true)

  -- the correction by a row
  abbrev pub row_correction : ℕ → ℕ → ℤ
  row_correction r = correction (f.value r) (levels f r)

  -- v has eight places, and comes of k corrections by such rows
  pub record Walked (k : ℕ) (v : Vector) : Type 0 where
    pub places : length v.a ≡ 8
    pub walk : Walk 9 Row row_correction k (component v)

-- a row's correction is what a step adds to v
corrected_added : (y : Bool) (l : ℕ → ℕ) (v : Vector) → length v.a ≡ 8 → Added 9 (correction y l) (component v) (component (corrected_by y l v))
corrected_added y l v e zero h = component_corrected y l v 0 (omega arith)
corrected_added y l v e (suc place) h = component_corrected y l v (suc place) (omega arith)

-- the correction by a row that fails has a product of at most 0 with v
failing_product : (f : Function) (v : Vector) (r : ℕ) → length v.a ≡ 8 → fails f v r ≡ true → dot 9 (row_correction f r) (component v) ≤ℤ pos 0
unfolding distance
failing_product f v r e h = rw (correction_dot 8 (f.value r) (levels f r) v (omega arith)) (omega (integers, fails_margin f v r h))

walked_keeps : (f : Function) (k : ℕ) (v : Vector) (r : ℕ) → failing f v ≡ Some r → Walked f k v
    → Walked f (k + 1) (corrected_by (f.value r) (levels f r) v)
walked_keeps f k v r e w =
    let first = failing_some f v r e in
    rw (add-one k) (record {
      places = length_corrected (f.value r) (levels f r) v ∙ w.places;
      walk = more r w.walk (omega (arith, first.inside), fails_cared f v r first.passes) (failing_product f v r w.places first.passes)
          (corrected_added (f.value r) (levels f r) v w.places);
    })

zero_walked : (f : Function) → Walked f 0 zero_vector
zero_walked f = record { places = refl; walk = start zero_component }
  where
    zero_component : (i : ℕ) → i < 9 → component zero_vector i ≡ pos 0
    zero_component zero h = refl
    zero_component (suc place) h = get_or-replicate 8 place (pos 0) (pos 0) (omega arith)

-- after any number of steps of the fresh state, v comes of K corrections
pub run_walked : (f : Function) (m : ℕ) → Walked f (run f m (fresh f)).k (run f m (fresh f)).v
run_walked f m = fresh_keeps f (Walked f) (walked_keeps f) m (zero_walked f)
