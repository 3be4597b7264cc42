-- What bounds a job: the squares of its vector, which K bounds, and the factor of a gate, which bounds K, each with n + 1 (demand 3;
-- over any function with n · top² + 1).
-- Definitions only. Assumes nothing.
use Rattle.std.specs.Prelude.{List, [], ◌∷◌, ℕ, ◌+◌, ◌*◌, ℤ, pos, nat_abs, ◌-ℤ◌, ◌*ℤ◌}
use Rattle.types.specs.declared.vector.Vector.{Vector}

abbrev pub square : ℤ → ℕ
square z = nat_abs z * nat_abs z

-- the squares of the numbers of a list, added up
unfoldable pub sum_squares : List ℤ → ℕ
sum_squares [] = 0
sum_squares (x ∷ xs) = square x + sum_squares xs

-- the sum of the squares of a1..a8 and b; a job's places past n are 0
unfoldable pub squares : Vector → ℕ
unfolding sum_squares
squares v = sum_squares v.a + square v.b

-- 4 × the sum of the squared weights + (2T − 1) squared
unfoldable pub factor : List ℤ → ℤ → ℕ
unfolding sum_squares
factor ws th = 4 * sum_squares ws + square (pos 2 *ℤ th -ℤ pos 1)
