-- Where the loop of `chunk` stands. Its state keeps the vectors that it came with; those of the machine are v and s, whose sums the loop has.
-- With them the state stands where the machine does (`Unsettled` of UnsettledLaws), and v is small enough for places of 16 bits. Assumes nothing.
use Rattle.std.specs.Prelude.{◌≡◌, ℕ, ◌+◌, ◌*◌, ◌<◌, ◌≤◌, Bool, true, List, length, ℤ}
use mathlib.Core.Path.{◌∙◌, ap}
use Rattle.std.specs.Prelude.{Option}
use native.Mathlib.Omega.{arith}
use Rattle.types.specs.declared.table.Table.{Table}
use Rattle.table.specs.Gate.{in_range}
use Rattle.types.specs.declared.vector.Vector.{Vector}
use Rattle.function.specs.Failing.{failing}
use Rattle.function.specs.Vector.{corrected_by, same_vector}
use Rattle.function.specs.Witness.{zeros}
use Rattle.lanes.specs.Sums.{magnitude, vector_sums}
use Rattle.lanes.specs.Codes.{row_code, found_code}
use Rattle.types.specs.declared.state.State.{State}
use Rattle.types.specs.declared.stage.Stage.{Stage}
use Rattle.types.specs.declared.stage.Stage.TheVariants as Stage'
use Rattle.state.specs.Machine.{with_stage}
use Rattle.state.specs.Sound.{Sound}
use Rattle.chunks.proofs.UnsettledLaws.{Unsettled, unsettled_start}
use Rattle.table.specs.Table.{function_of}
use Rattle.function.specs.Function.{level}

-- the loop's state with the vectors v and s
abbrev pub with_vectors : Vector → Vector → State → State
with_vectors v s x = record { k = x.k; v = v; mark = x.mark; s = s; counts = x.counts; stage = x.stage }

-- the loop's state at its mark
abbrev pub marking : State → State
marking x = record { k = x.k; v = x.v; mark = x.k; s = x.s; counts = zeros; stage = x.stage }

-- the sums are those of v and of s, with which the state stands at the machine's after m steps from `start`; v grows by 9 a step
pub record Follows (t : Table) (start : State) (m : ℕ) (x : State) (sums copy : List ℤ) : Type 0 where
  pub v : Vector
  pub s : Vector
  pub current : sums ≡ vector_sums v
  pub copied : copy ≡ vector_sums s
  pub unsettled : Unsettled t start m (with_vectors v s x)
  pub small : magnitude v ≤ 9000 + 9 * m

-- the sums of a sound open state, where the loop begins
pub follows_start : {t : Table} {x : State} {sums copy : List ℤ} → Sound (function_of t) x → x.stage ≡ Stage'.Open → magnitude x.v ≤ 9000
    → sums ≡ vector_sums x.v → copy ≡ vector_sums x.s → Follows t x 0 x sums copy
follows_start {x = x} sound e small current copied = record {
  v = x.v;
  s = x.s;
  current = current;
  copied = copied;
  unsettled = unsettled_start sound e;
  small = omega arith;
}

-- what the contracts of the code say of any vectors that have the sums: of `lowest`, `correct` and `same_sums`; and a state with such vectors
abbrev pub Searches : Table → List ℤ → Option ℕ → Type 0
Searches t sums next =
    (k : ℕ) (v : Vector) → length v.a ≡ 8 → in_range k t.n v.a v.b ≡ true → sums ≡ vector_sums v
    → next ≡ found_code t (failing (function_of t) v)

abbrev pub Corrects : List ℤ → ℕ → List ℤ → Type 0
Corrects sums code after =
    (v : Vector) (y : Bool) (row : ℕ) → length v.a ≡ 8 → row < 256 → code ≡ row_code y row → sums ≡ vector_sums v
    → after ≡ vector_sums (corrected_by y (level 2 row) v)

abbrev pub Compares : Table → List ℤ → List ℤ → Bool → Type 0
Compares t sums copy same =
    (k : ℕ) (v s : Vector) → length v.a ≡ 8 → length s.a ≡ 8
    → in_range k t.n v.a v.b ≡ true → in_range k t.n s.a s.b ≡ true
    → sums ≡ vector_sums v → copy ≡ vector_sums s → same ≡ same_vector v s

abbrev pub Restores : State → List ℤ → List ℤ → Stage → State → Type 0
Restores x sums copy stage r =
    (v s : Vector) → length v.a ≡ 8 → length s.a ≡ 8 → sums ≡ vector_sums v → copy ≡ vector_sums s → r ≡ with_stage stage (with_vectors v s x)

-- the vectors that `vector_of` makes of the sums restore the state
pub restores : (x : State) {sums copy : List ℤ} (stage : Stage) (a b : Vector)
    → ((v : Vector) → length v.a ≡ 8 → sums ≡ vector_sums v → a ≡ v)
    → ((s : Vector) → length s.a ≡ 8 → copy ≡ vector_sums s → b ≡ s) → Restores x sums copy stage (with_stage stage (with_vectors a b x))
restores x stage a b current copied v s v-weights s-weights v-sums s-sums =
    ap (λ (u : Vector). with_stage stage (with_vectors u b x)) (current v v-weights v-sums)
    ∙ ap (λ (u : Vector). with_stage stage (with_vectors v u x)) (copied s s-weights s-sums)
