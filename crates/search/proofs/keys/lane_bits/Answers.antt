-- `keys::lane_bits` meets its contract: the rows of the first block have the bits of the rows that they repeat, and those past it their own.
-- Assumes nothing.
use mathlib.Core.Path.{◌≡◌, sym, ◌∙◌, ap}
use mathlib.Core.Bool.{Bool, false}
use mathlib.Core.List.{List}
use Prim.Native.Nat.{ℕ, ◌*◌, ◌%◌, ◌≤◌, ◌<◌}
use native.Mathlib.Nat.{mod-lt, mod-eq_of_lt}
use native.Mathlib.Decide.{dec_le}
use native.Mathlib.Omega.{arith}
use lib.Pow.{pow_pos}
use lib.ListN.{length, get_or}
use Rattle.numbers.proofs.TabulateLaws.{length_tabulate}
use Rattle.table.specs.Table.{rows_of, byte_count, bit_at}
use Rattle.table.proofs.TableLaws.{rows_le, bytes_le}
use Rattle.scan.specs.Scan.{in_table, values_below}
use Rattle.scan.proofs.ValueLaws.{values_at}
use Rattle.lanes.specs.Blocks.{lane_rows}
use Rattle.search.proofs.BlockLaws.{past_block}
use Rattle.search.proofs.keys.lane_bits.Goals as goal

pub byte_values-bits-requires : goal.byte_values-bits-requires
byte_values-bits-requires c = omega (arith, c.byte_count.ensures, bytes_le {n = c.args.n} c.requires)

-- what was read has the bit of each row
read_at : (n : ℕ) (bytes : List ℕ) (bits : List Bool) → n ≤ 8 → bits ≡ values_below (8 * byte_count n) bytes → (r : ℕ) → r < rows_of n
    → get_or bits r false ≡ bit_at bytes r
read_at n bytes bits bound is r h =
    let few = rows_le {n = n} bound in
    ap (λ (l : List Bool). get_or l r false) is ∙ values_at bytes (8 * byte_count n) r (omega arith) (omega arith)

pub repeat_rows-requires : goal.repeat_rows-requires
repeat_rows-requires c =
    let count = 8 * byte_count c.args.n in (
      omega (arith, c.row_count.ensures, pow_pos c.args.n),
      rw c.byte_count.ensures at (ap length c.byte_values-bits.ensures) ∙ length_tabulate (in_table count c.args.bytes.now) 256,
    )

-- the rows of the first block repeat its table's, and the others are the table's own
row_bit : (n : ℕ) (bytes : List ℕ) (bits repeated : List Bool) → n ≤ 8 → bits ≡ values_below (8 * byte_count n) bytes
    → ((r : ℕ) → r < 32 → get_or repeated r false ≡ get_or bits (r % rows_of n) false)
    → ((r : ℕ) → 32 ≤ r → get_or repeated r false ≡ get_or bits r false)
    → (r : ℕ) → r < lane_rows n → Dec (32 ≤ r) → get_or repeated r false ≡ bit_at bytes (r % rows_of n)
row_bit n bytes bits repeated bound is first past r h (yes l) =
    let inside = past_block n r l h in
    past r l ∙ read_at n bytes bits bound is r inside ∙ sym (ap (bit_at bytes) (mod-eq_of_lt inside))
row_bit n bytes bits repeated bound is first past r h (no l) =
    first r (omega (arith, l)) ∙ read_at n bytes bits bound is (r % rows_of n) (mod-lt r (pow_pos n))

pub returns : goal.returns
returns c r h =
    let read = rw c.byte_count.ensures at c.byte_values-bits.ensures in
    let ensured = c.repeat_rows.ensures in
    row_bit c.args.n c.args.bytes.now c.byte_values-bits.result c.repeat_rows.new.bits c.requires read
    (rw c.row_count.ensures at ensured.repeated) ensured.kept r h (dec_le 32 r)
