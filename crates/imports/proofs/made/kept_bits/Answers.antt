-- `made::kept_bits` meets its contract: with three inputs and more all bits are rows; with fewer, the rest by a power of two has those of
-- the rows. Assumes nothing.
use mathlib.Core.Path.{◌≡◌, ◌∙◌, ap}
use Prim.Native.Nat.{ℕ, ◌%◌, ◌*◌, ◌^◌, ◌≤◌}
use native.Mathlib.Omega.{arith}
use lib.Pow.{pow_pos, pow_mono, shl_exact}
use Rattle.table.proofs.RowLaws.{all_kept, some_kept}
use Rattle.imports.proofs.made.kept_bits.Goals as goal
use Rattle.imports.proofs.made.kept_bits.Goals.{After-row_count}

-- fewer than three inputs have at most four rows
few_rows : (c : After-row_count) → c.row_count.result ≤ 4
few_rows c = omega (arith, c.row_count.ensures, pow_mono c.if-n-lt3.true)

-- the power fits a byte
shifted : (c : After-row_count) → 1 * 2 ^ c.row_count.result % 256 ≡ 2 ^ c.row_count.result
shifted c = omega (arith, shl_exact {a = 1} 1 c.row_count.result 8 (omega arith) (omega (arith, few_rows c)))

pub overflow_shl-result : goal.overflow_shl-result
overflow_shl-result c = omega (arith, few_rows c)

pub nonzero_rem-result : goal.nonzero_rem-result
nonzero_rem-result c = omega (arith, shifted c, pow_pos c.row_count.result)

pub returns-then-n-lt3 : goal.returns-then-n-lt3
returns-then-n-lt3 c =
    let a = c.args in
    ap (λ (m : ℕ). a.byte % m) (shifted c ∙ ap (λ (rows : ℕ). 2 ^ rows) c.row_count.ensures) ∙ some_kept a.n a.byte c.if-n-lt3.true c.ranges.byte.fits

pub returns : goal.returns
returns c = all_kept c.args.n c.args.byte c.if-n-lt3.false c.ranges.byte.fits
