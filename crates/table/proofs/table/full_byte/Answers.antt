-- `table::full_byte` meets its contract: what a division by 2 to the number of rows leaves of 255 has the bits of the rows. Assumes nothing.
use mathlib.Core.Path.{◌≡◌, refl, ◌∙◌, ap}
use native.Mathlib.Nat.{one-mul, mod-eq_of_lt}
use mathlib.Core.Bool.{true}
use Prim.Native.Nat.{ℕ, zero, suc, ◌+◌, ◌*◌, ◌%◌, ◌^◌, ◌≤◌, ◌<◌}
use native.Mathlib.Omega.{arith}
use lib.Pow.{pow_pos, pow_mono}
use Rattle.table.specs.Table.{rows_of}
use Rattle.table.proofs.TableLaws.{byte_filled}
use Rattle.table.proofs.RowLaws.{all_kept, some_kept, row_byte_lem, every_bit}
use Rattle.table.proofs.table.full_byte.Goals as goal
use Rattle.table.proofs.table.full_byte.Goals.{After-row_count}

-- fewer than three inputs have at most four rows, so that the shift loses nothing
few_rows : (c : After-row_count) → rows_of c.args.n ≤ 4
few_rows c = pow_mono {i = c.args.n} {j = 2} (omega (arith, c.if-n-ge3.false))

shifted_by : (c : After-row_count) → 1 * 2 ^ c.row_count.result % 256 ≡ 2 ^ rows_of c.args.n
shifted_by c =
    let n = c.args.n in
    rw c.row_count.ensures (rw one-mul (mod-eq_of_lt (omega (arith, pow_mono {i = rows_of n} {j = 4} (few_rows c)))))

-- what is left of 255 is one less than the power
low_full : (n : ℕ) → n < 3 → 255 % 2 ^ rows_of n + 1 ≡ 2 ^ rows_of n
low_full zero h = refl
low_full (suc zero) h = refl
low_full (suc (suc zero)) h = refl
low_full (suc (suc (suc n))) h = absurd (omega arith)

pub returns-then-n-ge3 : goal.returns-then-n-ge3
returns-then-n-ge3 c =
    let n = c.args.n in
    record { rows = λ k inside. all_kept n 255 c.if-n-ge3.true (omega arith) ∙ row_byte_lem n k 255 (λ row. true) inside (λ j l i. every_bit j l); largest = λ b l. (λ h. byte_filled c.if-n-ge3.true l, λ h. absurd (omega arith)) }

pub returns : goal.returns
returns c =
    let n = c.args.n in
    let few : n < 3 = omega (arith, c.if-n-ge3.false) in
    let full = ap (λ (x : ℕ). 255 % x) (shifted_by c) in
    let most = ap (λ (x : ℕ). x + 1) full ∙ low_full n few in
    record { rows = λ k inside. full ∙ some_kept n 255 few (omega arith) ∙ row_byte_lem n k 255 (λ row. true) inside (λ j l i. every_bit j l); largest = λ b l. (λ h. omega (arith, most), λ h. omega (arith, most)) }

pub nonzero_rem-result : goal.nonzero_rem-result
nonzero_rem-result c = omega (arith, shifted_by c, pow_pos (rows_of c.args.n))

pub overflow_shl-result : goal.overflow_shl-result
overflow_shl-result c = omega (arith, c.row_count.ensures, few_rows c)
