-- A witness: a count for each row, when it balances, the test of it, and when two are the same (document 01, "Table, gate, witness"; the
-- field's term is a certificate of summability). `balances_correct` of proofs/ joins `Balances` and `balances`. Definitions only. Assumes
-- nothing.
use Rattle.std.specs.Prelude.{◌≡◌, Bool, true, false, ◌&&◌, ◌||◌, List, ℕ, zero, suc, ◌+◌, ◌*◌, ◌≤◌, ◌<◌, ltb, eqb, get_or, set, replicate}
use Rattle.numbers.specs.Sum.{sum_below}
use Rattle.numbers.specs.Tests.{same_bool, all_below}
use Rattle.function.specs.Function.{Function, levels, rows}

-- the level of input i, from 1 on, in a row; input 0 is the constant 1, so that a sum over it counts whole rows
abbrev pub input_level : (ℕ → ℕ) → ℕ → ℕ
input_level level zero = 1
input_level level (suc place) = level place

abbrev pub only_if : Bool → ℕ → ℕ
only_if true x = x
only_if false x = 0

-- the counts of the rows whose value is `side`, each times the level of input i, added up
unfoldable pub side_sum : Function → Bool → (ℕ → ℕ) → ℕ → ℕ
unfolding sum_below
side_sum f side count i = sum_below (rows f) (λ r. only_if (same_bool (f.value r) side) (count r * input_level (levels f r) i))

-- true rows and false rows have the same total above 0, and for each input the same total of its levels (of a table: over the rows in
-- which it is true); rows that are not cared for have no count
pub record Balances (f : Function) (count : ℕ → ℕ) : Type 0 where
  pub total : side_sum f true count 0 ≡ side_sum f false count 0
  pub above : 0 < side_sum f true count 0
  pub inputs : (i : ℕ) → 1 ≤ i → i ≤ f.places → side_sum f true count i ≡ side_sum f false count i
  pub cared : (r : ℕ) → r < rows f → f.cared r ≡ false → count r ≡ 0

-- the test that rows that are not cared for have no count
unfoldable pub counts_cared : Function → (ℕ → ℕ) → Bool
unfolding all_below
counts_cared f count = all_below (rows f) (λ r. f.cared r || eqb (count r) 0)

-- the test that counts balance: the totals of input 0, those of inputs 1 to n, and no count on a row that is not cared for
unfoldable pub balances : Function → (ℕ → ℕ) → Bool
unfolding all_below side_sum counts_cared
balances f count =
    ltb 0 (side_sum f true count 0) && all_below (suc f.places) (λ i. eqb (side_sum f true count i) (side_sum f false count i)) && counts_cared f count

-- the count of a row in an array
abbrev pub count_of : List ℕ → ℕ → ℕ
count_of counts r = get_or counts r 0

-- an array with no count
abbrev pub zeros : List ℕ
zeros = replicate 256 0

-- an array with 1 added to the count of row r
abbrev pub one_more : ℕ → List ℕ → List ℕ
one_more r counts = set counts r (count_of counts r + 1)

-- the test that two arrays have the same counts
unfoldable pub same_counts : List ℕ → List ℕ → Bool
same_counts xs ys = all_below 256 (λ r. eqb (count_of xs r) (count_of ys r))
