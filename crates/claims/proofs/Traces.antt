-- The trace of a table's job: every count is of a true row or of a false row, and an equation without differences is the one with them. Assumes
-- nothing.
use mathlib.Core.Path.{◌≡◌}
use mathlib.Core.Bool.{Bool, true, false}
use Prim.Native.Nat.{ℕ, zero, suc, ◌+◌, ◌^◌, ◌≤◌, ◌<◌}
use native.Mathlib.Omega.{arith}
use lib.ListN.{get_or}
use lib.IntN.{ℤ, pos, neg_ℤ, ◌+ℤ◌, ◌-ℤ◌}
use Rattle.numbers.specs.Sum.{sum_below}
use Rattle.numbers.specs.Tests.{same_bool}
use Rattle.numbers.proofs.Int.{integers, parts_add, parts_sub, parts_neg}
use Rattle.numbers.proofs.SumLaws.{sum_below_add, sum_below_ext}
use Rattle.types.specs.declared.table.Table.{Table}
use Rattle.types.specs.declared.state.State.{State}
use Rattle.function.specs.Witness.{only_if, side_sum, count_of}
use Rattle.function.specs.Vector.{component}
use Rattle.table.specs.Table.{value, function_of}
use Rattle.table.proofs.OnTables.{table_total}
use Rattle.state.specs.Sound.{Traced}

one_side : (y : Bool) (count : ℕ) → only_if (same_bool y true) count + only_if (same_bool y false) count ≡ count
one_side true count = omega arith
one_side false count = omega arith

-- the counts of true rows and of false rows are the counts of all rows
both_sides : (t : Table) (count : ℕ → ℕ)
    → side_sum (function_of t) true count 0 + side_sum (function_of t) false count 0 ≡ sum_below (2 ^ t.n) count
both_sides t count =
    let of : Bool → ℕ → ℕ = λ side r. only_if (same_bool (value t r) side) (count r) in
    let sum : sum_below (2 ^ t.n) (λ r. of true r + of false r) ≡ sum_below (2 ^ t.n) (of true) + sum_below (2 ^ t.n) (of false) =
    sum_below_add (2 ^ t.n) (of true) (of false) in
    let all : sum_below (2 ^ t.n) (λ r. of true r + of false r) ≡ sum_below (2 ^ t.n) count =
    sum_below_ext (2 ^ t.n) (λ r. of true r + of false r) count (λ r h. one_side (value t r) (count r)) in
    omega (arith, sum, all, table_total t true count, table_total t false count)

-- what stands on the left as a sum is a difference on the right
less : (v s : ℤ) (m p : ℕ) → v +ℤ pos m ≡ s +ℤ pos p → v ≡ s +ℤ pos p -ℤ pos m
less v s m p e = omega (integers, parts_add v (pos m), parts_add s (pos p), parts_sub (s +ℤ pos p) (pos m))

more : (v s : ℤ) (m p : ℕ) → v ≡ s +ℤ pos p -ℤ pos m → v +ℤ pos m ≡ s +ℤ pos p
more v s m p e = omega (integers, parts_add v (pos m), parts_add s (pos p), parts_sub (s +ℤ pos p) (pos m))

-- and the reverse for b, whose component is its negation
less_b : (v s : ℤ) (m p : ℕ) → neg_ℤ v +ℤ pos m ≡ neg_ℤ s +ℤ pos p → v ≡ s -ℤ pos p +ℤ pos m
less_b v s m p e =
    omega (
      integers,
      parts_neg v,
      parts_neg s,
      parts_add (neg_ℤ v) (pos m),
      parts_add (neg_ℤ s) (pos p),
      parts_sub s (pos p),
      parts_add (s -ℤ pos p) (pos m),
    )

more_b : (v s : ℤ) (m p : ℕ) → v ≡ s -ℤ pos p +ℤ pos m → neg_ℤ v +ℤ pos m ≡ neg_ℤ s +ℤ pos p
more_b v s m p e =
    omega (
      integers,
      parts_neg v,
      parts_neg s,
      parts_add (neg_ℤ v) (pos m),
      parts_add (neg_ℤ s) (pos p),
      parts_sub s (pos p),
      parts_add (s -ℤ pos p) (pos m),
    )

module _ (t : Table) (x : State) where
  abbrev sum : Bool → ℕ → ℕ
  sum side i = side_sum (function_of t) side (count_of x.counts) i

  -- the counts of a traced job add up to K − M
  pub traced_total : Traced (function_of t) x → sum_below (2 ^ t.n) (count_of x.counts) + x.mark ≡ x.k
  traced_total h = omega (arith, h.total, both_sides t (count_of x.counts))

  -- each a is that of s, with the totals of its input's true rows added and those of its false rows taken away
  pub traced_a : Traced (function_of t) x → (place : ℕ) → place < t.n
      → get_or x.v.a place (pos 0) ≡ get_or x.s.a place (pos 0) +ℤ pos (sum true (suc place)) -ℤ pos (sum false (suc place))
  traced_a h place l =
      less (get_or x.v.a place (pos 0)) (get_or x.s.a place (pos 0)) (sum false (suc place)) (sum true (suc place)) (h.sum (suc place) l)

  -- b the reverse
  pub traced_b : Traced (function_of t) x → x.v.b ≡ x.s.b -ℤ pos (sum true 0) +ℤ pos (sum false 0)
  traced_b h = less_b x.v.b x.s.b (sum false 0) (sum true 0) (h.sum 0 (omega arith))

  -- a job of which this holds is traced
  pub traced_from : sum_below (2 ^ t.n) (count_of x.counts) + x.mark ≡ x.k
      → ((place : ℕ) → place < t.n
      → get_or x.v.a place (pos 0) ≡ get_or x.s.a place (pos 0) +ℤ pos (sum true (suc place)) -ℤ pos (sum false (suc place)))
      → x.v.b ≡ x.s.b -ℤ pos (sum true 0) +ℤ pos (sum false 0)
      → Traced (function_of t) x
  traced_from total a b = record { total = omega (arith, total, both_sides t (count_of x.counts)); sum = by }
    where
      by : (i : ℕ) → i ≤ t.n → component x.v i +ℤ pos (sum false i) ≡ component x.s i +ℤ pos (sum true i)
      by zero l = more_b x.v.b x.s.b (sum false 0) (sum true 0) b
      by (suc place) l =
          more (get_or x.v.a place (pos 0)) (get_or x.s.a place (pos 0)) (sum false (suc place)) (sum true (suc place)) (a place l)
