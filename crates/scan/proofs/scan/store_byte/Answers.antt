-- `scan::store_byte` meets its contract. The loop's invariant: the rows before bit `bit` of the byte have their values. Assumes nothing.
use mathlib.Core.Path.{◌∙◌, ap, ap₂}
use mathlib.Core.Bool.{Bool}
use mathlib.Core.List.{List}
use Prim.Native.Nat.{ℕ, ◌+◌, ◌*◌}
use native.Mathlib.Nat.{add_assoc}
use native.Mathlib.Omega.{arith}
use lib.ListN.{set}
use Rattle.table.proofs.RowLaws.{byte_bit}
use Rattle.scan.specs.Scan.{values_below}
use Rattle.scan.proofs.ValueLaws.{values_more, values_skip}
use Rattle.scan.proofs.scan.store_byte.Goals as goal

pub returns-then-byte-eq0 : goal.returns-then-byte-eq0
returns-then-byte-eq0 c =
    let a = c.args in c.requires.1 ∙ values_skip a.bytes.now a.at c.if-byte-eq0.true

pub loop-bit-preserved : goal.loop-bit-preserved
loop-bit-preserved c =
    let at_head = c.loop-bit in
    let a = c.args in
    let row = 8 * a.at + at_head.bit in
    ap₂ (λ (l : List Bool) (b : Bool). set l row b) at_head.invariant (byte_bit a.bytes.now a.at at_head.bit (omega arith))
    ∙ values_more a.bytes.now row (omega arith)
    ∙ ap (λ (m : ℕ). values_below m a.bytes.now) (add_assoc (8 * a.at) at_head.bit 1)
