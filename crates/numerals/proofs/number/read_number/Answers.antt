-- `crate::number::read_number` meets its contract. The loop's invariant: the groups ahead, at the scale that is reached, complete the
-- value so far to the number. Assumes nothing.
use mathlib.Core.Path.{sym, ◌∙◌}
use native.Mathlib.Omega.{arith}
use borrow.Author.Rules.{rules}
use Prim.Native.Nat.{◌-◌, ◌<◌}
use Rattle.numerals.proofs.GroupLaws.{Byte, ahead_none, ahead_over, ahead_small, ahead_ends, ahead_zero, ahead_last, ahead_next}
use Rattle.numerals.proofs.number.read_number.Goals as goal
use Rattle.numerals.proofs.number.read_number.Goals.{After-from-byte}

pub loop-scale-init : goal.loop-scale-init
loop-scale-init c = ahead_none c.args.bytes.now c.args.at

pub returns-in_default : goal.returns-in_default
returns-in_default c = sym (ahead_ends c.loop-scale.invariant c.loop-scale-test.true (search rules))

-- the byte that is there
byte : (c : After-from-byte) → Byte c.args.bytes.now c.loop-scale.next c.from-byte.result
byte c =
    let (tested, found, past, (inside, is), others) = c.in-Some.ensures.lookup in
    record { inside = inside; is = sym (c.from-byte.ensures ∙ is 0) }

pub returns-then-scale-gt1 : goal.returns-then-scale-gt1
returns-then-scale-gt1 c =
    sym
    (ahead_zero c.loop-scale.invariant c.loop-scale-test.true (byte (goal.at.returns-then-scale-gt1 c).After-from-byte)
    c.if-byte-lt128.true c.if-byte-eq0.true c.if-scale-gt1.true)

pub overflow_add-value : goal.overflow_add-value
overflow_add-value c = omega (arith, ahead_small c.loop-scale.invariant c.loop-scale-test.true _ c.if-byte-lt128.true)

pub returns-then-byte-lt128 : goal.returns-then-byte-lt128
returns-then-byte-lt128 c =
    sym
    (ahead_last c.loop-scale.invariant c.loop-scale-test.true (byte (goal.at.returns-then-byte-lt128 c).After-from-byte)
    c.if-byte-lt128.true c.else-byte-eq0.either)

-- a byte is below 256
byte_fits : (c : After-from-byte) → c.from-byte.result < 256
byte_fits c = omega (arith, c.type_inv.bytes c.loop-scale.next, (byte c).is)

pub overflow_mul-value-in-loop-scale : goal.overflow_mul-value-in-loop-scale
overflow_mul-value-in-loop-scale c =
    let fits = byte_fits (goal.at.overflow_mul-value-in-loop-scale c).After-from-byte in
    omega (arith, ahead_small c.loop-scale.invariant c.loop-scale-test.true (c.from-byte.result - 128) (omega arith))

pub overflow_add-value-in-loop-scale : goal.overflow_add-value-in-loop-scale
overflow_add-value-in-loop-scale c =
    let fits = byte_fits (goal.at.overflow_add-value-in-loop-scale c).After-from-byte in
    omega (arith, ahead_small c.loop-scale.invariant c.loop-scale-test.true (c.from-byte.result - 128) (omega arith))

pub loop-scale-preserved : goal.loop-scale-preserved
loop-scale-preserved c =
    let at = (goal.at.loop-scale-preserved c).After-from-byte in
    ahead_next c.loop-scale.invariant c.loop-scale-test.true (byte at) c.if-byte-lt128.false (byte_fits at)

pub returns : goal.returns
returns c = sym (ahead_over c.loop-scale.invariant c.loop-scale-test.false)
