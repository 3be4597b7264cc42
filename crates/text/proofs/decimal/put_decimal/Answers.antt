-- `decimal::put_decimal` meets its contract. The loop's invariant: `here` is the position behind the digits of `rest`, and those written at
-- their place make the whole text. The measure is `rest`. Assumes nothing.
use mathlib.Core.Path.{◌≡◌, sym, ◌∙◌, ap}
use mathlib.Core.List.{List, [], ◌∷◌}
use Prim.Native.Nat.{ℕ, ◌+◌, ◌-◌, ◌/◌, ◌%◌, ◌^◌, ◌≤◌, ◌<◌}
use native.Mathlib.Omega.{arith}
use lib.ListN.{length, set, length-set}
use Rattle.codec.specs.Written.{written_at}
use Rattle.codec.proofs.WrittenLaws.{written_one}
use Rattle.text.specs.Text.{decimal}
use Rattle.text.proofs.DecimalLaws.{decimal_one, decimal_more, decimal_less, decimal_some, written_before}
use Rattle.text.proofs.decimal.put_decimal.Goals as goal

-- the last digit stored, and the others before it
round : (out : List ℕ) (at rest here : ℕ) → 10 ≤ rest → rest < 2 ^ 64 → here ≡ at + length (decimal rest) → here ≤ length out
    → written_at (set out (here - 1) (48 + rest % 10)) at (decimal (rest / 10)) ≡ written_at out at (decimal rest)
round out at rest here h k e room =
    let others = decimal (rest / 10) in
    let last = 48 + rest % 10 in
    let fewer = decimal_less rest h k in
    let place : here - 1 ≡ at + length others = omega arith in
    rw (place, written_one out (at + length others) last (omega arith), written_before out at others (last ∷ []) (omega arith)) (ap (written_at out at) (sym (decimal_more rest h k)))

pub overflow_sub-here : goal.overflow_sub-here
overflow_sub-here c = omega (arith, decimal_some c.loop-rest.rest)

pub bounds-out-here : goal.bounds-out-here
bounds-out-here c = omega (arith, decimal_some c.loop-rest.rest)

pub loop-rest-preserved : goal.loop-rest-preserved
loop-rest-preserved c =
    let at-loop = c.loop-rest in
    let a = c.args in
    let fewer = decimal_less at-loop.rest (omega arith) (omega arith) in
    rw length-set (
      omega arith,
      omega arith,
      omega arith,
      at-loop.invariant.3,
      round at-loop.out a.at at-loop.rest at-loop.here (omega arith) (omega arith) (omega arith) (omega arith) ∙ at-loop.invariant.4,
    )

pub bounds-out-at : goal.bounds-out-at
bounds-out-at c = omega (arith, decimal_some c.loop-rest.rest)

pub returns : goal.returns
returns c =
    let at-loop = c.loop-rest in
    let a = c.args in
    let one = decimal_one at-loop.rest (omega arith) in
    (omega arith, written_one at-loop.out a.at (48 + at-loop.rest) (bounds-out-at c) ∙ ap (written_at at-loop.out a.at) (sym one) ∙ at-loop.invariant.4)
