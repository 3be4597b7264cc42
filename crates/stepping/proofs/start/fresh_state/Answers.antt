-- `start::fresh_state` meets its contract: the state by the search for a binate input, and for a row that is cared for. Assumes
-- nothing.
use Rattle.std.specs.Prelude.{◌≡◌, ℕ, true, false, List}
use mathlib.Core.Path.{refl, sym, ◌∙◌, ap}
use Rattle.std.specs.Prelude.{Option, Some, None}
use Rattle.function.proofs.BinateLaws.{binate_place_lt}
use Rattle.std.specs.Prelude.{is_some}
use Rattle.numbers.proofs.TestLaws.{no_true}
use Rattle.function.specs.Function.{Function}
use Rattle.function.specs.Binate.{binate_place}
use Rattle.function.specs.Failing.{failing}
use Rattle.function.specs.Vector.{zero_vector}
use Rattle.function.specs.Witness.{zeros}
use Rattle.types.specs.declared.stage.Stage.TheVariants as Stage'
use Rattle.state.specs.Machine.{start_state, fresh}
use Rattle.state.proofs.MachineLaws.{fresh_open, fresh_found, fresh_binate}
use Rattle.table.specs.Table.{function_of}
use Rattle.stepping.proofs.start.fresh_state.Goals as goal
use Rattle.stepping.proofs.start.fresh_state.Goals.{then-some_cared, else-some_cared}

-- the fresh state of a table without a binate input, by whether a row fails at the vector 0
module _ (f : Function) (unate : binate_place f ≡ None) where
  opened : (first : Option ℕ) → failing f zero_vector ≡ first → is_some first ≡ true → start_state zeros Stage'.Open ≡ fresh f
  opened None e some-fails = absurd (no_true some-fails)
  opened (Some r) e some-fails = sym (fresh_open f r unate e)

  ended : (first : Option ℕ) → failing f zero_vector ≡ first → is_some first ≡ false → start_state zeros Stage'.Found ≡ fresh f
  ended None e none_fails = sym (fresh_found f unate e)
  ended (Some r) e none_fails = absurd (no_true (sym none_fails))

pub returns-in_default : goal.returns-in_default
returns-in_default c =
    let f = function_of c.args.table in
    let unate = sym c.binate_place.ensures ∙ c.in_default.is in
    c.start_state.ensures
    ∙ elim c.if-some_cared.branch [
      | then-some_cared w ↦ ap (start_state zeros) w.stage-is ∙ opened f unate _ refl (sym c.some_cared.ensures ∙ w.if-some_cared.true)
      | else-some_cared w ↦ ap (start_state zeros) w.stage-is ∙ ended f unate _ refl (sym c.some_cared.ensures ∙ w.if-some_cared.false)
    ]

pub binate_counts-requires : goal.binate_counts-requires
binate_counts-requires c =
    (c.requires, binate_place_lt (function_of c.args.table) c.in-Some.place (sym c.binate_place.ensures ∙ c.in-Some.is))

pub returns : goal.returns
returns c =
    c.start_state-2.ensures
    ∙ ap (λ (counts : List ℕ). start_state counts Stage'.Binate) c.binate_counts.ensures
    ∙ sym (fresh_binate (function_of c.args.table) c.in-Some.place (sym c.binate_place.ensures ∙ c.in-Some.is))
