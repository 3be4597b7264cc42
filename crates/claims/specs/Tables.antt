-- The definitions over any function, at a table: the documents' own words (document 01, "Table, gate, witness" and "The stepping machine";
-- document 02, §3), and, where every row is cared for, document 01's. Statements alone. Assumes nothing.
use Rattle.std.specs.Prelude.{◌≡◌, ◌↔◌, Bool, true, false, not, cond, ◌&&◌, ◌||◌, List, [], ◌∷◌, ℕ, suc, ◌+◌, ◌*◌, ◌^◌, ◌≤◌, ◌<◌, eqb, length, get_or, ℤ, pos, negsuc, ◌+ℤ◌, ◌-ℤ◌}
use Rattle.std.specs.Prelude.{Some, None}
use Rattle.std.specs.Int.Signed.{lt_z, le_z}
use Rattle.numbers.specs.Sum.{sum_below}
use Rattle.numbers.specs.Tests.{same_bool}
use Rattle.types.specs.declared.table.Table.{Table}
use Rattle.types.specs.declared.vector.Vector.{Vector}
use Rattle.types.specs.declared.stage.Stage.TheVariants.{Open, Found, Binate}
use Rattle.types.specs.declared.state.State.{State}
use Rattle.function.specs.Function.{level}
use Rattle.function.specs.Gate.{distance, gate_true, Realises}
use Rattle.function.specs.Witness.{only_if, side_sum, Balances, count_of, zeros}
use Rattle.function.specs.Turns.{turns_at, first_turn}
use Rattle.function.specs.Vector.{sign, corrected_by}
use Rattle.function.specs.Failing.{fails}
use Rattle.function.specs.Binate.{binate_place, binate_counts}
use Rattle.table.specs.Table.{input_limit, value, cared, function_of}
use Rattle.refusal.specs.Refusal.{NoneBroken}
use Rattle.refusal.specs.TableRules.{table_rules}
use Rattle.state.specs.Sound.{Ranged, Traced}
use Rattle.job.specs.Machine.{start_job, fresh}

-- the input of a place is true in row r: bit `place` of r is 1
abbrev pub true_in : (r place : ℕ) → Bool
true_in r place = eqb (level 2 r place) 1

-- the weights of the true inputs added up
unfoldable pub true_sum : List ℤ → (ℕ → Bool) → ℤ
true_sum [] isTrue = pos 0
true_sum (w ∷ ws) isTrue = cond (isTrue 0) w (pos 0) +ℤ true_sum ws (λ place. isTrue (suc place))

-- what the definitions over a function say of a table t: its rows that are cared for count, and an input is true in a row or not
pub record TablesAsWritten (t : Table) : Type 0 where
  -- the distance of a row: the sum of the weights of its true inputs, less T. A gate is true where that sum is at least T
  pub distance_as : (ws : List ℤ) (th : ℤ) (r : ℕ) → distance ws th (level 2 r) ≡ true_sum ws (true_in r) -ℤ th
  pub gate_true_lem : (ws : List ℤ) (th : ℤ) (r : ℕ) → gate_true ws th (level 2 r) ≡ le_z th (true_sum ws (true_in r))
  -- a row that is not cared for has the value false, in every table that its rules take
  pub free_false : NoneBroken (table_rules t []) → (r : ℕ) → r < 2 ^ t.n → cared t r ≡ false → value t r ≡ false
  -- a gate realises a table when it agrees on the rows that are cared for
  pub realises : (ws : List ℤ) (th : ℤ)
      → Realises ws th (function_of t) ↔ ((r : ℕ) → r < 2 ^ t.n → cared t r ≡ true → gate_true ws th (level 2 r) ≡ value t r)
  -- a witness balances when true rows and false rows have the same total above 0, and for each input the same total, and no row that is not
  -- cared for has a count
  pub balances : (count : ℕ → ℕ)
      → Balances (function_of t) count
      ↔ ((side_sum (function_of t) true count 0 ≡ side_sum (function_of t) false count 0)
      × (0 < side_sum (function_of t) true count 0)
      × ((i : ℕ) → 1 ≤ i → i ≤ t.n → side_sum (function_of t) true count i ≡ side_sum (function_of t) false count i)
      × ((r : ℕ) → r < 2 ^ t.n → cared t r ≡ false → count r ≡ 0))
  -- the totals: of the counts of one side's rows, and, for an input, of those rows in which it is true
  pub total : (side : Bool) (count : ℕ → ℕ)
      → side_sum (function_of t) side count 0 ≡ sum_below (2 ^ t.n) (λ r. only_if (same_bool (value t r) side) (count r))
  pub input_total : (side : Bool) (count : ℕ → ℕ) (place : ℕ)
      → side_sum (function_of t) side count (suc place) ≡ sum_below (2 ^ t.n) (λ r. only_if (same_bool (value t r) side && true_in r place) (count r))
  -- making the input of a place true turns the value of row r, which lacks it, to `to`, and both rows are cared for
  pub turns : (to : Bool) (place r : ℕ)
      → turns_at (function_of t) to place r
      ≡ (cared t r && (cared t (r + 2 ^ place) && (eqb (level 2 r place) 0 && same_bool (value t r) (not to) && same_bool (value t (r + 2 ^ place)) to)))
  -- a fresh job has all numbers 0 but a binate table's counts, in stage binate; otherwise the stage is open if a row is cared for, and found if
  -- none is
  pub fresh_unate : binate_place (function_of t) ≡ None → (r : ℕ) → r < 2 ^ t.n → cared t r ≡ true → fresh t ≡ start_job t zeros Open
  pub fresh_free : ((r : ℕ) → r < 2 ^ t.n → cared t r ≡ false) → fresh t ≡ start_job t zeros Found
  pub fresh_binate : (place : ℕ) → binate_place (function_of t) ≡ Some place → fresh t ≡ start_job t (binate_counts (function_of t) place) Binate
  -- the counts of a binate table: 1 at the lowest row without the input where it rises, at the lowest where it falls, and at their partners
  -- with it, and 0 at every other row: the four rows differ
  pub binate_rows : t.n ≤ input_limit → (place rise fall : ℕ) → binate_place (function_of t) ≡ Some place
      → first_turn (function_of t) true place ≡ Some rise → first_turn (function_of t) false place ≡ Some fall → (r : ℕ)
      → count_of (binate_counts (function_of t) place) r
      ≡ only_if (eqb r rise || eqb r (rise + 2 ^ place) || eqb r fall || eqb r (fall + 2 ^ place)) 1
  -- row r fails: it is cared for, and d is below 1 on a true row, above −1 on a false row
  pub fails_as : (v : Vector) (r : ℕ)
      → fails (function_of t) v r ≡ (let d = distance v.a v.b (level 2 r) in cared t r && cond (value t r) (lt_z d (pos 1)) (lt_z (negsuc 0) d))
  -- step 1: on a true row 1 is added to the a of its true inputs and taken from b; on a false row the reverse
  pub corrected_a : (v : Vector) (r place : ℕ) → place < length v.a
      → get_or (corrected_by (value t r) (level 2 r) v).a place (pos 0)
      ≡ (let a = get_or v.a place (pos 0) in cond (true_in r place) (a +ℤ sign (value t r)) a)
  pub corrected_b : (v : Vector) (r : ℕ) → (corrected_by (value t r) (level 2 r) v).b ≡ v.b -ℤ sign (value t r)
  -- the components of a sound job are within ±K
  pub ranged : (k : ℕ) (v : Vector) → Ranged ((function_of t).top * k) t.n v ↔ Ranged k t.n v
  -- its counts add up to K − M, and v is s plus each row's correction times its count: a true row's is added to the a of its true inputs and
  -- taken from b, on a false row the reverse
  pub traced : (x : State)
      → Traced (function_of t) x
      ↔ (let sum : Bool → ℕ → ℤ = λ side i. pos (side_sum (function_of t) side (count_of x.counts) i) in
      (sum_below (2 ^ t.n) (count_of x.counts) + x.mark ≡ x.k)
      × ((place : ℕ) → place < t.n → get_or x.v.a place (pos 0) ≡ get_or x.s.a place (pos 0) +ℤ sum true (suc place) -ℤ sum false (suc place))
      × (x.v.b ≡ x.s.b -ℤ sum true 0 +ℤ sum false 0))

-- what they say of a table with every row cared for, kinds 1 to 4 of records: every one of its 2^n rows counts
pub record WholeTablesAsWritten (t : Table) : Type 0 where
  -- a gate realises it when it agrees on every row
  pub realises : (ws : List ℤ) (th : ℤ) → Realises ws th (function_of t) ↔ ((r : ℕ) → r < 2 ^ t.n → gate_true ws th (level 2 r) ≡ value t r)
  -- a witness balances when true rows and false rows have the same total above 0, and for each input the same total
  pub balances : (count : ℕ → ℕ)
      → Balances (function_of t) count
      ↔ ((side_sum (function_of t) true count 0 ≡ side_sum (function_of t) false count 0)
      × (0 < side_sum (function_of t) true count 0)
      × ((i : ℕ) → 1 ≤ i → i ≤ t.n → side_sum (function_of t) true count i ≡ side_sum (function_of t) false count i))
  -- making the input of a place true turns the value of row r, which lacks it, to `to`
  pub turns : (to : Bool) (place r : ℕ) → r < 2 ^ t.n → r + 2 ^ place < 2 ^ t.n
      → turns_at (function_of t) to place r ≡ (eqb (level 2 r place) 0 && same_bool (value t r) (not to) && same_bool (value t (r + 2 ^ place)) to)
  -- the fresh job of one without a binate input is open
  pub fresh_unate : binate_place (function_of t) ≡ None → fresh t ≡ start_job t zeros Open
  -- row r fails: d below 1 on a true row, above −1 on a false row
  pub fails_as : (v : Vector) (r : ℕ) → r < 2 ^ t.n
      → fails (function_of t) v r ≡ (let d = distance v.a v.b (level 2 r) in cond (value t r) (lt_z d (pos 1)) (lt_z (negsuc 0) d))
