-- `table::nonzero` meets its contract. Assumes nothing.
use Rattle.std.proofs.Common.{◌≡◌, ap, ap₂, ℕ, ◌<◌, List, not, length, get_or, arith, bit_or, below_more}
use Rattle.std.specs.Bool.{Decides}
use Rattle.std.proofs.lemmas.Bool.{eqb-true, eq-eqb}
use Rattle.std.proofs.lemmas.Bool.Decides.{same_from_decides}
use Rattle.numbers.specs.Tests.{all_at_most}
use Rattle.numbers.proofs.PackedLaws.{or_none}
use Rattle.numbers.proofs.TestLaws.{all_at_most_at, all_at_most_from}
use Rattle.table.proofs.table.nonzero.Goals as goal

-- a list is within 0 exactly if each of its numbers is 0
each_zero : (xs : List ℕ) → Decides (all_at_most 0 xs) ((i : ℕ) → i < length xs → get_or xs i 0 ≡ 0)
each_zero xs = (λ e i l. omega (arith, all_at_most_at 0 xs e i), λ zero. all_at_most_from 0 xs (λ i l. omega (arith, zero i l)))

pub loop-byte-preserved : goal.loop-byte-preserved
loop-byte-preserved c = (
  λ e. let none = or_none c.loop-byte.set (get_or c.args.bytes.now c.loop-byte.byte-index 0) e in below_more _ _ (c.loop-byte.invariant.0 none.0) none.1,
  λ all. ap₂ bit_or (c.loop-byte.invariant.1 all) (all c.loop-byte.byte-index (omega arith)),
)

pub returns : goal.returns
returns c =
    let bytes = c.args.bytes.now in
    let inv = c.loop-byte.invariant in
    ap not
    (same_from_decides _ _ (λ e k l. inv.0 (eqb-true c.loop-byte.set 0 e) k (omega arith), λ all. eq-eqb c.loop-byte.set 0 (inv.1 all))
    (each_zero bytes))
