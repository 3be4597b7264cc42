-- The loop of `chunk` beside the machine: a pass of the loop is a step, and where the loop ends the state is the machine's. Assumes nothing.
use Rattle.std.specs.Prelude.{◌≡◌, ℕ, ◌+◌, ◌*◌, ◌/◌, ◌<◌, ◌≤◌, Bool, true, false, eqb, ◌≢◌, List, length, get_or, ℤ, pos}
use mathlib.Core.Path.{refl, sym, ◌∙◌, ap, subst}
use Rattle.std.specs.Prelude.{Option, Some, None, MatchOption}
use native.Mathlib.Decide.{dec_le}
use native.Mathlib.Omega.{arith}
use Rattle.numbers.proofs.TabulateLaws.{filled}
use Rattle.numbers.proofs.TestLaws.{no_true, not_passed}
use Rattle.types.specs.declared.table.Table.{Table}
use Rattle.table.specs.Table.{rows, value, function_of}
use Rattle.table.proofs.TableLaws.{rows_le}
use Rattle.types.specs.declared.vector.Vector.{Vector}
use Rattle.function.specs.Failing.{failing}
use Rattle.function.specs.Vector.{corrected_by, same_vector}
use Rattle.function.specs.Witness.{zeros, one_more}
use Rattle.numbers.specs.Power.{highest}
use Rattle.function.proofs.VectorLaws.{length_corrected}
use Rattle.function.proofs.CountLaws.{length_one_more, one_more_other}
use Rattle.function.proofs.FailingLaws.{failing_some}
use Rattle.function.proofs.RangeLaws.{in_range_correct, in_range_wider}
use Rattle.machine.proofs.RangeLaws.{row_in_range}
use Rattle.lanes.specs.Sums.{magnitude, vector_sums, Narrow}
use Rattle.lanes.specs.Codes.{row_code, found_code}
use Rattle.lanes.proofs.SumsLaws.{sums_narrow, sums_first, magnitude_corrected}
use Rattle.types.specs.declared.state.State.{State}
use Rattle.types.specs.declared.stage.Stage.{Stage}
use Rattle.types.specs.declared.stage.Stage.TheVariants as Stage'
use Rattle.state.specs.Machine.{with_stage, run}
use Rattle.state.specs.Sound.{cap, Sound}
use Rattle.chunks.proofs.CodeLaws.{code_below, no_row, row_is}
use Rattle.state.proofs.MachineLaws.{marked_power, marked_other}
use Rattle.state.proofs.StepSound.{with_stage_same}
use Rattle.chunks.proofs.UnsettledLaws.{Unsettled, unsettled_found, unsettled_row, unsettled_open, unsettled_looped, corrected_to, unsettled_next, Bounded, unsettled_bounded}
use Rattle.chunks.proofs.ClearLaws.{uncounted, cleared_zeros}
use Rattle.chunks.proofs.FollowLaws.{with_vectors, marking, Follows, Searches, Corrects, Compares, Restores}
use Rattle.function.specs.Function.{level}

-- what `chunk` asks of its state and its budget
pub record Begun (t : Table) (start : State) (budget : ℕ) : Type 0 where
  pub inputs : t.n ≤ 8
  pub sound : Sound (function_of t) start
  pub capped : start.k + budget ≤ cap
  pub few : budget ≤ 750

-- `made` of the budget's steps are made, and `next` is what the search by v found
pub record Passed (t : Table) (start : State) (budget made : ℕ) (x : State) (sums copy : List ℤ) (next : Option ℕ) : Type 0 where
  pub follows : Follows t start made x sums copy
  pub search : next ≡ found_code t (failing (function_of t) follows.v)
  pub within : made ≤ budget

-- the loop's invariant: so it is, or v is s again, the state is looped, and there is no next step
pub record Going (t : Table) (start : State) (budget made : ℕ) (x : State) (sums copy : List ℤ) (next : Option ℕ) (looped : Bool) : Type 0 where
  pub still : looped ≡ false → Passed t start budget made x sums copy next
  pub ends : looped ≡ true → next ≡ None
  pub closed : looped ≡ true → (r : State) → Restores x sums copy Stage'.Looped r → r ≡ run (function_of t) budget start

-- with a next step it is not looped
module _ {t : Table} {start : State} {budget made : ℕ} {x : State} {sums copy : List ℤ} {next : Option ℕ} {looped : Bool} {code : ℕ}
    (g : Going t start budget made x sums copy next looped) (is : next ≡ Some code)
  where
    pub going_still : looped ≡ false
    going_still = not_passed looped (λ e. let none : Some code ≡ None = sym is ∙ g.ends e in absurd (cc))

    pub going_passed : Passed t start budget made x sums copy next
    going_passed = g.still going_still

-- a step further with a search
pub going_on : {t : Table} {start : State} {budget made : ℕ} {x : State} {sums copy : List ℤ} {next : Option ℕ} {looped : Bool} → looped ≡ false
    → Passed t start budget made x sums copy next
    → Going t start budget made x sums copy next looped
going_on is pass = record {
  still = λ e. pass;
  ends = λ e. absurd (no_true (sym is ∙ e));
  closed = λ e. absurd (no_true (sym is ∙ e));
}

module _ {t : Table} {start : State} {budget : ℕ} (b : Begun t start budget) where
  module _ {m : ℕ} {x : State} {sums copy : List ℤ} (h : m ≤ budget) (c : Follows t start m x sums copy) where
    -- no number of the loop's state wraps in a step
    bounded : Bounded t (with_vectors c.v c.s x)
    bounded = let few : start.k + m ≤ cap = omega (arith, b.capped) in unsettled_bounded b.inputs b.sound few c.unsettled

    -- the sums fit their places
    pub follows_narrow : Narrow 16000 sums × (get_or sums 32 (pos 0) ≡ pos 0)
    follows_narrow =
        subst (λ (l : List ℤ). Narrow 16000 l × (get_or l 32 (pos 0) ≡ pos 0)) (sym c.current)
        (sums_narrow c.v 16000 bounded.shaped.weights (omega (arith, c.small, b.few)), sums_first c.v)

    -- the search by the sums is the search by v
    pub follows_passed : {next : Option ℕ} → Searches t sums next → Passed t start budget m x sums copy next
    follows_passed search = record {
      follows = c;
      search = search x.k c.v bounded.shaped.weights bounded.current c.current;
      within = h;
    }

  module _ {m : ℕ} {x : State} {sums copy : List ℤ} {next : Option ℕ} (pass : Passed t start budget m x sums copy next) where
    abbrev v : Vector
    v = pass.follows.v

    abbrev s : Vector
    s = pass.follows.s

    abbrev unsettled : Unsettled t start m (with_vectors v s x)
    unsettled = pass.follows.unsettled

    pub passed_bounded : Bounded t (with_vectors v s x)
    passed_bounded = bounded pass.within pass.follows

    -- the state with its vectors, in a stage
    restored : {stage : Stage} {r : State} → Restores x sums copy stage r → r ≡ with_stage stage (with_vectors v s x)
    restored restores =
        let shaped = passed_bounded.shaped in
        restores v s shaped.weights shaped.copied pass.follows.current pass.follows.copied

    -- where no row is found, the state is found, and stays so
    pub passed_found : {r : State} → next ≡ None → Restores x sums copy Stage'.Found r → r ≡ run (function_of t) budget start
    passed_found is restores =
        restored restores ∙ unsettled_found unsettled budget pass.within (no_row t v (sym is ∙ pass.search))

    module _ {code : ℕ} (is : next ≡ Some code) where
      abbrev row : ℕ
      row = code / 2

      abbrev sign : Bool
      sign = value t row

      row_found : failing (function_of t) v ≡ Some row
      row_found = (row_is t v (sym is ∙ pass.search)).0

      coded : code ≡ row_code sign row
      coded = (row_is t v (sym is ∙ pass.search)).1

      -- the row that is found is one of the 256
      pub passed_row : code / 2 < 256
      passed_row = omega (arith, unsettled_row unsettled row_found, rows_le b.inputs)

      -- and its code one of the 512
      pub passed_code : code < 512
      passed_code = omega (arith, code_below sign row passed_row, coded)

      -- a mark clears the counts of the table's rows, and the others are 0
      pub passed_cleared : {counts : List ℕ} → counts ≡ filled uncounted (one_more row x.counts) (rows t) → counts ≡ zeros
      passed_cleared e =
          e
          ∙ cleared_zeros (one_more row x.counts) (rows t) (length_one_more row x.counts ∙ passed_bounded.shaped.counts) (rows_le b.inputs)
          (λ r past.
          one_more_other row r x.counts (λ e. omega (arith, unsettled_row unsettled row_found))
          ∙ passed_bounded.past r past)

      -- the state is then the machine's
      pub passed_open : {r : State} → budget ≤ m → Restores x sums copy Stage'.Open r → r ≡ run (function_of t) budget start
      passed_open all restores =
          restored restores
          ∙ with_stage_same Stage'.Open (with_vectors v s x) unsettled.stage
          ∙ unsettled_open unsettled row_found
          ∙ ap (λ (n : ℕ). run (function_of t) n start) (omega (arith, pass.within))

      -- the vector after the correction by the row
      abbrev u : Vector
      u = corrected_by sign (level 2 row) v

      u_weights : length u.a ≡ 8
      u_weights = length_corrected sign (level 2 row) v ∙ passed_bounded.shaped.weights

      -- the state after the correction, but for its vectors
      abbrev after : State
      after = corrected_to row x.v x

      module _ {later : List ℤ} (w : Corrects sums code later) where
        u_sums : later ≡ vector_sums u
        u_sums = w v sign row passed_bounded.shaped.weights passed_row coded pass.follows.current

        u_small : magnitude u ≤ 9000 + 9 * (m + 1)
        u_small = omega (arith, magnitude_corrected sign row v passed_bounded.shaped.weights, pass.follows.small)

        module _ {same : Bool} (compares : Compares t later copy same) where
          -- to compare the sums is to compare the vector with s
          compared : same ≡ same_vector u s
          compared =
              let k = x.k in
              let n = t.n in
              let was = (in_range_correct k n v.a v.b).0 passed_bounded.current in
              let kept = (in_range_correct k n s.a s.b).0 passed_bounded.copied in
              compares (k + 1) u s u_weights passed_bounded.shaped.copied
              ((in_range_correct (k + 1) n u.a u.b).1
              (row_in_range k n sign row v (unsettled_row unsettled row_found) passed_bounded.shaped.weights was))
              ((in_range_correct (k + 1) n s.a s.b).1 (in_range_wider (k + 1) (omega arith) kept))
              u_sums pass.follows.copied

          -- back at s the state is looped, and stays so
          pub passed_looped : {r : State} → m < budget → same ≡ true → Restores after later copy Stage'.Looped r → r ≡ run (function_of t) budget start
          passed_looped more same_is restores =
              restores u s u_weights passed_bounded.shaped.copied u_sums pass.follows.copied
              ∙ unsettled_looped unsettled row_found refl refl budget more (sym compared ∙ same_is)

          pub passed_closed : {y : State} {copies : List ℤ} {code : Option ℕ} {looped : Bool} → m < budget → same ≡ true → y ≡ after → copies ≡ copy
              → code ≡ None
              → looped ≡ true
              → Going t start budget (m + 1) y later copies code looped
          passed_closed more same_is e f none closes = rw (e, f) record {
            still = λ z. absurd (no_true (sym z ∙ closes));
            ends = λ z. none;
            closed = λ z r restores. passed_looped more same_is restores;
          }

          module _ (differs : same ≡ false) where
            apart : same_vector u s ≡ false
            apart = sym compared ∙ differs

            -- elsewhere the loop goes on: at a mark the sums of v are those of s too
            pub passed_marked : {y : State} {copies : List ℤ} → eqb (highest (x.k + 1)) (x.k + 1) ≡ true → y ≡ marking after
                → copies ≡ later → Follows t start (m + 1) y later copies
            passed_marked power after_is same_is = rw (after_is, same_is) record {
              v = u;
              s = u;
              current = u_sums;
              copied = u_sums;
              unsettled = unsettled_next unsettled row_found refl refl apart (sym (marked_power (corrected_to row u (with_vectors v s x)) power));
              small = u_small;
            }

            -- and else those of s are as they were
            pub passed_other : {y : State} {copies : List ℤ} → eqb (highest (x.k + 1)) (x.k + 1) ≡ false → y ≡ after
                → copies ≡ copy → Follows t start (m + 1) y later copies
            passed_other power after_is same_is = rw (after_is, same_is) record {
              v = u;
              s = s;
              current = u_sums;
              copied = pass.follows.copied;
              unsettled = unsettled_next unsettled row_found refl refl apart (sym (marked_other (corrected_to row u (with_vectors v s x)) power));
              small = u_small;
            }

  passed_ends : {m : ℕ} {x : State} {sums copy : List ℤ} {next : Option ℕ} {stage : Stage} {r : State} → Passed t start budget m x sums copy next
      → MatchOption next (stage ≡ Stage'.Found) (λ code. stage ≡ Stage'.Open)
      → (next ≢ None → budget ≤ m)
      → Restores x sums copy stage r → r ≡ run (function_of t) budget start
  passed_ends {m} {x} {sums} {copy} {next} {stage} {r} pass is all restores = by next refl is
    where
      by : (o : Option ℕ) → next ≡ o → MatchOption o (stage ≡ Stage'.Found) (λ code. stage ≡ Stage'.Open) → r ≡ run (function_of t) budget start
      by None e f = passed_found pass e (subst (λ (y : Stage). Restores x sums copy y r) f restores)
      by (Some code) e f =
          let some : next ≢ None = λ none. absurd (cc) in
          passed_open pass e (all some) (subst (λ (y : Stage). Restores x sums copy y r) f restores)

  -- after the loop the state with its vectors, in its stage, is the machine's
  pub going_ends : {m : ℕ} {x : State} {sums copy : List ℤ} {next : Option ℕ} {looped : Bool} {stage : Stage} {r : State}
      → Going t start budget m x sums copy next looped
      → (looped ≡ true → stage ≡ Stage'.Looped) × (looped ≡ false → MatchOption next (stage ≡ Stage'.Found) (λ code. stage ≡ Stage'.Open))
      → (next ≢ None → budget ≤ m)
      → Restores x sums copy stage r → r ≡ run (function_of t) budget start
  going_ends {x = x} {sums = sums} {copy = copy} {looped = looped} {r = r} g is all restores = by looped refl
    where
      by : (b : Bool) → looped ≡ b → r ≡ run (function_of t) budget start
      by true e = g.closed e r (subst (λ (y : Stage). Restores x sums copy y r) (is.0 e) restores)
      by false e = passed_ends (g.still e) (is.1 e) all restores
