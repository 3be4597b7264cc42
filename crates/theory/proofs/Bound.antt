-- The bounds on a state that comes of the fresh one by any number of steps: the squares of v are at most (n·top² + 1)·K, and K is at most
-- n·top² + 1 times the factor of every gate that realises the function. The convergence theorem gives both, from u = (2w, 2T − 1): a
-- correction by a row on which the gate agrees with the function has a product of at least 1 with u, and u's squares are the factor. Of a
-- table n·top² + 1 is n + 1. Assumes nothing.
use mathlib.Core.Path.{◌≡◌, refl, sym, ◌∙◌, ap, ap₂}
use mathlib.Core.Bool.{Bool, true, false}
use mathlib.Core.List.{List, [], ◌∷◌, map}
use Prim.Native.Nat.{ℕ, suc, ◌+◌, ◌*◌, ◌≤◌}
use native.Mathlib.Omega.{arith}
use lib.ListN.{length, length-map}
use lib.IntN.{ℤ, pos, nat_abs, ◌+ℤ◌, ◌-ℤ◌, ◌*ℤ◌}
use lib.Signed.{◌≤ℤ◌, le_z}
use Rattle.numbers.specs.Sum.{weighted_sum}
use Rattle.numbers.proofs.Int.{integers, parts_add, parts_mul, parts_neg, ≤ℤ_eq, nat_abs_parts, size_mul}
use Rattle.numbers.proofs.Ring.{ring, dring, rep, D-eq}
use Rattle.numbers.proofs.SumLaws.{weighted_sum_nil, weighted_sum_cons}
use Rattle.types.specs.declared.table.Table.{Table}
use Rattle.types.specs.declared.vector.Vector.{Vector}
use Rattle.function.specs.Function.{Function, levels}
use Rattle.function.specs.Gate.{distance, Realises}
use Rattle.function.specs.Vector.{component}
use Rattle.function.specs.Failing.{margin}
use Rattle.function.proofs.FunctionLaws.{level_below, level_none}
use Rattle.table.specs.Table.{function_of}
use Rattle.state.specs.Machine as state
use Rattle.job.specs.Machine.{run, fresh}
use Rattle.theory.specs.Bound.{square, sum_squares, squares, factor}
use Rattle.theory.proofs.Perceptron.{dot, walk_squares, walk_bound}
use Rattle.theory.proofs.Corrections.{correction_dot, correction_short, squares_dot}
use Rattle.theory.proofs.MachineWalk.{Row, row_correction, run_walked}

-- n·top²: the most that the squares of a row's levels add up to
abbrev pub level_squares : Function → ℕ
level_squares f = f.places * (f.top * f.top)

-- a row's correction has squares of at most n·top² + 1
row_short : (f : Function) (r : ℕ) → Row f r → dot 9 (row_correction f r) (row_correction f r) ≤ℤ pos (suc (level_squares f))
row_short f r h =
    correction_short f.top f.places (levels f r) (λ place. omega (arith, level_below f.top r place)) (λ place k. level_none f.top r place h.0 k)
    8
    (f.value r)

-- the squares of a1..an and b are at most (n·top² + 1)·K
pub squares_bound : (f : Function) (m : ℕ) → squares (state.run f m (state.fresh f)).v ≤ suc (level_squares f) * (state.run f m (state.fresh f)).k
squares_bound f m =
    let w = run_walked f m in
    let v = (state.run f m (state.fresh f)).v in
    omega (integers, walk_squares 9 (Row f) (row_correction f) (suc (level_squares f)) (row_short f) w.walk, squares_dot 8 v (omega (arith, w.places)))

-- ---- the vector u of a gate

abbrev twice : ℤ → ℤ
twice z = pos 2 *ℤ z

-- 2w and 2T − 1
abbrev doubled : List ℤ → ℤ → Vector
doubled ws th = record { a = map twice ws; b = twice th -ℤ pos 1 }

square_twice : (w : ℤ) → square (twice w) ≡ 4 * square w
square_twice w =
    let e : nat_abs (twice w) ≡ 2 * nat_abs w = omega (arith, nat_abs_parts (twice w), nat_abs_parts w, size_mul (pos 2) w) in
    omega (arith, ap₂ ◌*◌ e e)

sum_squares_twice : (ws : List ℤ) → sum_squares (map twice ws) ≡ 4 * sum_squares ws
unfolding sum_squares
sum_squares_twice [] = refl
sum_squares_twice (w ∷ ws) = omega (arith, square_twice w, sum_squares_twice ws)

-- the squares of u are the factor
squares_doubled : (ws : List ℤ) (th : ℤ) → length ws ≤ 8 → dot 9 (component (doubled ws th)) (component (doubled ws th)) ≡ pos (factor ws th)
unfolding squares factor
squares_doubled ws th l =
    squares_dot 8 (doubled ws th) (omega (arith, length-map ws twice))
    ∙ ap (λ (x : ℕ). pos (x + square (twice th -ℤ pos 1))) (sum_squares_twice ws)

twice_term : (x w s : ℤ) → x *ℤ twice w +ℤ twice s ≡ twice (x *ℤ w +ℤ s)
twice_term x w s = simp ring

weighted_sum_twice : (ws : List ℤ) (l : ℕ → ℕ) → weighted_sum (map twice ws) l ≡ twice (weighted_sum ws l)
weighted_sum_twice [] l = rw (weighted_sum_nil l)
weighted_sum_twice (w ∷ ws) l =
    weighted_sum_cons (twice w) (map twice ws) l
    ∙ ap (λ (x : ℤ). pos (l 0) *ℤ twice w +ℤ x) (weighted_sum_twice ws (λ place. l (suc place)))
    ∙ twice_term (pos (l 0)) w (weighted_sum ws (λ place. l (suc place)))
    ∙ ap twice (sym (weighted_sum_cons w ws l))

difference_doubled : (s th : ℤ) → twice s -ℤ (twice th -ℤ pos 1) ≡ twice (s -ℤ th) +ℤ pos 1
difference_doubled s th = rw (rep s, rep th) (simp dring (D-eq _ _ _ _ (omega arith)))

-- a row's distance from u is twice that from the gate and 1
distance_doubled : (ws : List ℤ) (th : ℤ) (l : ℕ → ℕ) → distance (map twice ws) (twice th -ℤ pos 1) l ≡ twice (distance ws th l) +ℤ pos 1
unfolding distance
distance_doubled ws th l =
    ap (λ (s : ℤ). s -ℤ (twice th -ℤ pos 1)) (weighted_sum_twice ws l) ∙ difference_doubled (weighted_sum ws l) th

-- so where the gate has the value y, u has a margin of at least 1 on its side
margin_doubled : (y : Bool) (d : ℤ) → le_z (pos 0) d ≡ y → pos 1 ≤ℤ margin y (twice d +ℤ pos 1)
margin_doubled true d h = omega (integers, parts_add (twice d) (pos 1), parts_mul (pos 2) d)
margin_doubled false d h = omega (integers, parts_neg (twice d +ℤ pos 1), parts_add (twice d) (pos 1), parts_mul (pos 2) d)

-- a correction by a row on which the gate agrees with the function has a product of at least 1 with u
row_along : (f : Function) (ws : List ℤ) (th : ℤ) → length ws ≤ 8 → Realises ws th f → (r : ℕ) → Row f r
    → pos 1 ≤ℤ dot 9 (row_correction f r) (component (doubled ws th))
unfolding distance
row_along f ws th l g r h =
    ≤ℤ_eq (margin_doubled (f.value r) (distance ws th (levels f r)) (g r h.0 h.1))
    refl
    (sym
    (correction_dot 8 (f.value r) (levels f r) (doubled ws th) (omega (arith, length-map ws twice))
    ∙ ap (margin (f.value r)) (distance_doubled ws th (levels f r))))

-- ---- the bound

-- K is at most n·top² + 1 times the factor of every realising gate of up to eight weights
pub corrections_bound : (f : Function) (m : ℕ) (ws : List ℤ) (th : ℤ) → length ws ≤ 8 → Realises ws th f
    → (state.run f m (state.fresh f)).k ≤ suc (level_squares f) * factor ws th
corrections_bound f m ws th l g =
    let u = component (doubled ws th) in
    let bound = walk_bound 9 (Row f) (row_correction f) (level_squares f) u (row_short f) (row_along f ws th l g) (run_walked f m).walk in
    omega (integers, rw (squares_doubled ws th l) at bound)

-- ---- of a table

-- n·top² + 1 is n + 1
pub table_squares : (t : Table) → suc (level_squares (function_of t)) ≡ t.n + 1
table_squares t = omega arith

-- the squares of a1..an and b are at most (n + 1)·K
pub squares_le : (t : Table) (m : ℕ) → squares (run m (fresh t)).state.v ≤ (t.n + 1) * (run m (fresh t)).state.k
unfolding run fresh
squares_le t m = rw (table_squares t) at (squares_bound (function_of t) m)

-- K is at most (n + 1) × (4 × the sum of the squared weights + (2T − 1) squared), for every n weights and T that realise the table
pub bound_on_k : (t : Table) (m : ℕ) (ws : List ℤ) (th : ℤ) → t.n ≤ 8 → length ws ≡ t.n → Realises ws th (function_of t)
    → (run m (fresh t)).state.k ≤ (t.n + 1) * factor ws th
unfolding run fresh
bound_on_k t m ws th h e g = rw (table_squares t) at (corrections_bound (function_of t) m ws th (omega arith) g)
