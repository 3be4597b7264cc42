-- `put::put_number` meets its contract: in each range of x the stores are its bytes, one behind the other. Assumes nothing.
use mathlib.Core.Path.{◌≡◌, ap}
use mathlib.Core.List.{List}
use Prim.Native.Nat.{ℕ, suc, ◌+◌, ◌≤◌}
use native.Mathlib.Numerals.{add-one}
use native.Mathlib.Omega.{arith}
use lib.ListN.{length, length-set}
use lib.Seq.{sets}
use Rattle.codec.specs.Written.{written_at}
use Rattle.codec.specs.Number.{number_bytes}
use Rattle.codec.proofs.NumberLaws.{number_one, number_two, number_three, number_length}
use Rattle.codec.proofs.WrittenLaws.{written_all}
use Rattle.writing.proofs.put.put_number.Goals as goal
use Rattle.writing.proofs.put.put_number.Goals.{Else-x-lt16384, Then-x-lt16384}

-- the bytes of a number, stored one behind the other
stored : (old : List ℕ) (at x : ℕ) (w : List ℕ) → number_bytes x ≡ w → at + length (number_bytes x) ≤ length old
    → sets old at w ≡ written_at old at (number_bytes x)
stored old at x w e h = rw e (written_all old at w (rw e at h))

-- how many bytes there are from 2^7 on, and from 2^14 on
two : (c : Then-x-lt16384) → length (number_bytes c.args.x) ≡ 2
two c = ap length (number_two c.args.x c.if-x-lt128.false c.if-x-lt16384.true)

three : (c : Else-x-lt16384) → length (number_bytes c.args.x) ≡ 3
three c = ap length (number_three c.args.x c.if-x-lt16384.false c.requires.0)

pub bounds-out-at : goal.bounds-out-at
bounds-out-at c = omega (arith, number_length c.args.x)

pub returns-then-x-lt128 : goal.returns-then-x-lt128
returns-then-x-lt128 c =
    let a = c.args in
    let e = number_one a.x c.if-x-lt128.true in
    (omega (arith, ap length e), stored a.out.now a.at a.x _ e c.requires.1)

pub bounds-out-at-2 : goal.bounds-out-at-2
bounds-out-at-2 c = omega (arith, number_length c.args.x)

pub bounds-out-at-then-x-lt16384 : goal.bounds-out-at-then-x-lt16384
bounds-out-at-then-x-lt16384 c = simp length-set (omega (arith, two c))

pub returns-then-x-lt16384 : goal.returns-then-x-lt16384
returns-then-x-lt16384 c =
    let a = c.args in
    (omega (arith, two c), rw add-one (stored a.out.now a.at a.x _ (number_two a.x c.if-x-lt128.false c.if-x-lt16384.true) c.requires.1))

pub bounds-out-at-3 : goal.bounds-out-at-3
bounds-out-at-3 c = simp length-set (omega (arith, three c))

pub bounds-out-at-4 : goal.bounds-out-at-4
bounds-out-at-4 c = simp length-set (omega (arith, three c))

pub returns : goal.returns
returns c =
    let a = c.args in
    let last : a.at + 2 ≡ suc (suc a.at) = omega arith in
    (omega (arith, three c), rw (add-one, last) (stored a.out.now a.at a.x _ (number_three a.x c.if-x-lt16384.false c.requires.0) c.requires.1))
