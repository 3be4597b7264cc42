-- `sums::add_levels` meets its contract. The loop's invariant: the sums below `input` have what the row adds, and the others are as they came.
-- Assumes nothing.
use mathlib.Core.Path.{◌≡◌, ◌∙◌, ap, ap₂}
use mathlib.Core.List.{List, ◌++◌}
use Prim.Native.Nat.{ℕ, zero, suc, ◌+◌, ◌*◌, ◌/◌, ◌%◌, ◌^◌, ◌<◌}
use native.Mathlib.Numerals.{one-add}
use native.Mathlib.Omega.{arith}
use lib.ListN.{length, get_or, drop}
use lib.Seq.{drop-cons, get_or_at}
use lib.Pow.{shr-shr}
use Rattle.numbers.specs.Tabulate.{tabulate}
use Rattle.numbers.proofs.TabulateLaws.{filled, length_tabulate, filled_none, filled_more}
use Rattle.function.specs.Witness.{input_level}
use Rattle.function.specs.Function.{level}
use Rattle.sides.proofs.sums.add_levels.Goals as goal
use Rattle.sides.proofs.sums.add_levels.Goals.{In-loop-input}
use Rattle.sides.proofs.sums.add_levels.Invariants.{sum_with}

-- bit i of 2 row + 1 is the level of input i
level_bit : (row i : ℕ) → (2 * row + 1) / 2 ^ i % 2 ≡ input_level (level 2 row) i
level_bit row zero = omega arith
level_bit row (suc place) =
    let half : (2 * row + 1) / 2 ≡ row = omega arith in
    rw (← one-add place, ← shr-shr (2 * row + 1) 1 place, half)

-- where an array is not filled yet, it has the old element
get_d_filled : (f : ℕ → ℕ) (old : List ℕ) (i : ℕ) → i < length old → get_or (filled f old i) i 0 ≡ get_or old i 0
get_d_filled f old i h =
    ap (λ (l : List ℕ). get_or (tabulate i f ++ l) i 0) (drop-cons old i 0 h)
    ∙ get_or_at (tabulate i f) (get_or old i 0) (drop (suc i) old) 0 i (length_tabulate f i)

pub loop-input-init : goal.loop-input-init
loop-input-init c = filled_none _ _

-- what the code stores
sum_is : (c : In-loop-input) → let a = c.args in let head = c.loop-input in get_or head.sums head.input 0 + a.count * ((2 * a.row + 1) / 2 ^ head.input % 2) ≡ sum_with a.sums.now a.row a.count head.input
sum_is c =
    let a = c.args in
    let head = c.loop-input in
    ap₂ (λ (sum level : ℕ). sum + a.count * level)
    (ap (λ (l : List ℕ). get_or l head.input 0) head.invariant ∙ get_d_filled _ a.sums.now head.input (omega (arith, c.requires.2)))
    (level_bit a.row head.input)

pub loop-input-preserved : goal.loop-input-preserved
loop-input-preserved c =
    let head = c.loop-input in
    filled_more _ c.args.sums.now head.input (omega (arith, c.requires.2)) head.invariant (sum_is (goal.at.loop-input-preserved c).In-loop-input)
