-- `table::spare_set` meets its contract. With three inputs and more the rows fill their bytes; with fewer, the last byte is the first, and a
-- spare bit makes it larger than the byte with the bits of all rows. Assumes nothing.
use mathlib.Core.Path.{◌≡◌, sym, ◌∙◌, ap, subst}
use mathlib.Core.Bool.{not}
use mathlib.Core.List.{List}
use Prim.Native.Nat.{ℕ, ◌-◌, ◌^◌, ◌≤◌, ◌<◌}
use native.Mathlib.Omega.{arith}
use native.Mathlib.Decide.{dec_le}
use lib.ListN.{drop, get_or, take, length, length-drop}
use lib.Pow.{pow_mono}
use mir.Syntax.{w8}
use mir.Val.{Fits}
use borrow.Author.Rules.{rules}
use Rattle.numbers.specs.Tests.{all_at_most}
use borrow.Author.Tests.{lt-ltb}
use Rattle.std.proofs.lemmas.List.{take_all}
use Rattle.table.specs.Table.{rows_of, byte_count}
use Rattle.table.proofs.TableLaws.{byte_filled, spare_first, spare_rest}
use Rattle.table.proofs.table.spare_set.Goals as goal
use Rattle.table.proofs.table.spare_set.Goals.{After-full_byte}

-- the last byte is at a power of the rows or past it only where it is the first
from_last : (n : ℕ) (bytes : List ℕ) {at : ℕ} → at ≡ byte_count n - 1 → get_or bytes at 0 < 256 → 2 ^ rows_of n ≤ get_or bytes at 0
    → 2 ^ rows_of n ≤ get_or bytes 0 0
from_last n bytes {at} is byte h = by (dec_le 3 n)
  where
    by : Dec (3 ≤ n) → 2 ^ rows_of n ≤ get_or bytes 0 0
    by (yes k) = absurd (omega (arith, byte_filled {n = n} k byte))
    by (no k) =
        let first : at ≡ 0 = omega (arith, pow_mono {i = n} {j = 2} (omega arith)) in
        subst (λ (q : ℕ). 2 ^ rows_of n ≤ get_or bytes q 0) first h

-- and below it, so is the first byte
below_last : (n : ℕ) (bytes : List ℕ) {at : ℕ} → at ≡ byte_count n - 1 → get_or bytes 0 0 < 256 → get_or bytes at 0 < 2 ^ rows_of n
    → get_or bytes 0 0 < 2 ^ rows_of n
below_last n bytes {at} is byte h = by (dec_le 3 n)
  where
    by : Dec (3 ≤ n) → get_or bytes 0 0 < 2 ^ rows_of n
    by (yes k) = byte_filled k byte
    by (no k) =
        let first : at ≡ 0 = omega (arith, pow_mono {i = n} {j = 2} (omega arith)) in
        subst (λ (q : ℕ). get_or bytes q 0 < 2 ^ rows_of n) first h

-- the byte that is looked at
last_is : (c : After-full_byte) → c.byte_count-count.result - 1 ≡ byte_count c.args.n - 1
last_is c = ap (λ (count : ℕ). count - 1) c.byte_count-count.ensures

pub returns-then-full_byte-bytes : goal.returns-then-full_byte-bytes
returns-then-full_byte-bytes c =
    let a = c.args in
    let last = get_or a.bytes (c.byte_count-count.result - 1) 0 in
    let byte : Fits w8 last = search rules in
    rw (lt-ltb _ _ c.if-full_byte-bytes.true) (sym (spare_first a.n a.bytes (from_last a.n a.bytes (last_is (goal.at.returns-then-full_byte-bytes c).After-full_byte) byte.fits ((c.full_byte.ensures.largest last byte.fits).1 c.if-full_byte-bytes.true))))

pub returns-else-full_byte-bytes : goal.returns-else-full_byte-bytes
returns-else-full_byte-bytes c =
    let a = c.args in
    let last = get_or a.bytes (c.byte_count-count.result - 1) 0 in
    let byte : Fits w8 last = search rules in
    let first : Fits w8 (get_or a.bytes 0 0) = search rules in
    let count : c.byte_count-count.result ≡ byte_count a.n = c.byte_count-count.ensures in
    let size : length a.bytes ≡ 32 = search rules in
    let rest : take (32 - c.byte_count-count.result) (drop c.byte_count-count.result a.bytes) ≡ drop (byte_count a.n) a.bytes =
    take_all _ _ (omega (arith, size, length-drop c.byte_count-count.result a.bytes)) ∙ ap (λ (k : ℕ). drop k a.bytes) count
    in
    c.nonzero.ensures
    ∙ ap (λ (l : List ℕ). not (all_at_most 0 l)) rest
    ∙ sym
    (spare_rest a.n a.bytes
    (below_last a.n a.bytes (last_is (goal.at.returns-else-full_byte-bytes c).After-full_byte) first.fits ((c.full_byte.ensures.largest last byte.fits).0 (omega (arith, c.if-full_byte-bytes.false)))))
