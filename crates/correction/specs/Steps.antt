-- The table of steps: what a correction adds to the distances of the rows of five inputs. For the inside of the machine alone. Definitions
-- only. Assumes nothing.
use Rattle.std.specs.Prelude.{ℕ, ◌+◌, ◌*◌, ◌/◌, ◌%◌, eqb, ℤ, pos, ◌*ℤ◌}
use Rattle.numbers.specs.Sum.{sum_below}
use Rattle.function.specs.Function.{level}
use Rattle.function.specs.Vector.{sign}

-- how many of the five low inputs are true in both rows
unfoldable pub shared : ℕ → ℕ → ℕ
shared r q = sum_below 5 (λ place. level 2 r place * level 2 q place)

-- entry i of the table of steps: what the correction by a row of five inputs, of code i div 32, adds to the distance of row i mod 32
unfoldable pub step_at : ℕ → ℤ
step_at i = pos (shared (i / 32 / 2) (i % 32) + 1) *ℤ sign (eqb (i / 32 % 2) 1)
