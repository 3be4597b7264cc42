-- Laws of heights: a row has at most as many true inputs as inputs, and as many among eight as among its table's; and what an entry of the
-- manual's page is. Assumes nothing.
use mathlib.Core.Path.{◌≡◌, ◌∙◌, ap}
use Prim.Native.Nat.{ℕ, zero, suc, ◌+◌, ◌-◌, ◌^◌, ◌≤◌, ◌<◌}
use native.Mathlib.Nat.{add-zero, add-suc}
use native.Mathlib.Omega.{arith}
use lib.ListN.{get_or}
use Rattle.numbers.proofs.SumLaws.{sum_below_suc, sum_below_most}
use Rattle.numbers.proofs.TabulateLaws.{get_d_tabulate}
use Rattle.function.specs.Function.{level}
use Rattle.function.proofs.FunctionLaws.{level_below, level_none}
use Rattle.heights.specs.Page.{true_inputs, manual_page}

-- at most all n are true
pub true_inputs_most : (n row : ℕ) → true_inputs n row ≤ n
unfolding true_inputs
true_inputs_most n row = omega (arith, sum_below_most n 1 (level 2 row) (λ place h. omega (arith, level_below 1 row place)))

-- one input more
true_inputs_suc : (n row : ℕ) → true_inputs (suc n) row ≡ true_inputs n row + level 2 row n
unfolding true_inputs
true_inputs_suc n row = sum_below_suc n (level 2 row)

-- a row of n inputs has no true one past them
true_inputs_past : (n more row : ℕ) → row < 2 ^ n → true_inputs (n + more) row ≡ true_inputs n row
true_inputs_past n zero row h = ap (λ (m : ℕ). true_inputs m row) (add-zero n)
true_inputs_past n (suc more) row h =
    ap (λ (m : ℕ). true_inputs m row) (add-suc n more)
    ∙ omega (arith, true_inputs_suc (n + more) row, level_none 1 row (n + more) h (omega arith), true_inputs_past n more row h)

-- so it has as many among eight inputs as among n
pub among_eight : {n row : ℕ} → n ≤ 8 → row < 2 ^ n → true_inputs 8 row ≡ true_inputs n row
among_eight {n} {row} h k =
    let eight : 8 ≡ n + (8 - n) = omega arith in
    ap (λ (m : ℕ). true_inputs m row) eight ∙ true_inputs_past n (8 - n) row k

-- an entry of the manual's page is the true inputs of its row
pub page_entry : (row : ℕ) → row < 256 → get_or manual_page row 0 ≡ true_inputs 8 row
unfolding manual_page
page_entry row h = get_d_tabulate (true_inputs 8) 256 row 0 h
