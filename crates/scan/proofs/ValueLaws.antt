-- Laws of the list of the rows' bits, filled from the front: the rows below m have theirs, and the others are false. Assumes nothing.
use mathlib.Core.Path.{◌≡◌, refl, sym, ◌∙◌}
use mathlib.Core.Bool.{false}
use mathlib.Core.List.{List}
use Prim.Native.Nat.{ℕ, ◌+◌, ◌*◌, ◌/◌, ◌%◌, ◌≤◌, ◌<◌}
use native.Mathlib.Nat.{div-eq_of_lt}
use native.Mathlib.Decide.{dec_le}
use native.Mathlib.Omega.{arith}
use lib.ListN.{length, get_or, set, replicate, length-set}
use lib.Pow.{pow_pos}
use lib.Seq.{get_or-set_same, get_or-set_other}
use borrow.Author.Tests.{lt-ltb, le-ltb}
use Rattle.numbers.specs.Tabulate.{tabulate}
use Rattle.numbers.proofs.TabulateLaws.{length_tabulate, get_d_tabulate, tabulate_get_d, tabulate_ext}
use Rattle.table.specs.Table.{bit_at}
use Rattle.scan.specs.Scan.{in_table, values_below}

module _ (bytes : List ℕ) where
  -- a row below m has its value
  in_table_below : (m r : ℕ) → r < m → in_table m bytes r ≡ bit_at bytes r
  in_table_below m r h = rw (lt-ltb r m h)

  -- a row from m on is false
  in_table_past : (m r : ℕ) → m ≤ r → in_table m bytes r ≡ false
  in_table_past m r h = rw (le-ltb r m h)

  -- so the list has the value of each row below m
  pub values_at : (m r : ℕ) → r < 256 → r < m → get_or (values_below m bytes) r false ≡ bit_at bytes r
  values_at m r l h = get_d_tabulate (in_table m bytes) 256 r false l ∙ in_table_below m r h

  -- no rows: all are false
  pub values_none : replicate 256 false ≡ values_below 0 bytes
  unfolding tabulate
  values_none = refl

  -- the store of a row's value
  pub values_more : (m : ℕ) → m < 256 → set (values_below m bytes) m (bit_at bytes m) ≡ values_below (m + 1) bytes
  values_more m h =
      let old = values_below m bytes in
      let new = set old m (bit_at bytes m) in
      tabulate_get_d (in_table (m + 1) bytes) 256 false new (length-set old m (bit_at bytes m) ∙ size) (λ r l. at r l (dec_le m r) (dec_le r m))
    where
      size : length (values_below m bytes) ≡ 256
      size = length_tabulate (in_table m bytes) 256

      at : (r : ℕ) → r < 256 → Dec (m ≤ r) → Dec (r ≤ m) → get_or (set (values_below m bytes) m (bit_at bytes m)) r false ≡ in_table (m + 1) bytes r
      at r l (yes above) (yes below) =
          let same : m ≡ r = omega arith in
          let room : m < length (values_below m bytes) = omega (arith, size) in
          rw (← same) (get_or-set_same (values_below m bytes) m (bit_at bytes m) false room ∙ sym (in_table_below (m + 1) m (omega arith)))
      at r l (yes above) (no past) =
          get_or-set_other (values_below m bytes) m r (bit_at bytes m) false (λ same. past (omega arith))
          ∙ get_d_tabulate (in_table m bytes) 256 r false l
          ∙ in_table_past m r above
          ∙ sym (in_table_past (m + 1) r (omega (arith, past)))
      at r l (no before) d =
          get_or-set_other (values_below m bytes) m r (bit_at bytes m) false (λ same. before (omega arith))
          ∙ get_d_tabulate (in_table m bytes) 256 r false l
          ∙ in_table_below m r (omega (arith, before))
          ∙ sym (in_table_below (m + 1) r (omega (arith, before)))

  -- a row of a byte 0 is false
  bit_false : (at r : ℕ) → get_or bytes at 0 ≡ 0 → r / 8 ≡ at → bit_at bytes r ≡ false
  unfolding bit_at
  bit_false at r e is = rw (is, e, div-eq_of_lt (pow_pos (r % 8)))

  -- the rows of a byte 0 are false as they stand
  pub values_skip : (at : ℕ) → get_or bytes at 0 ≡ 0 → values_below (8 * at) bytes ≡ values_below (8 * (at + 1)) bytes
  values_skip at e = tabulate_ext _ _ 256 (λ r l. same r (dec_le (8 * at) r) (dec_le (8 * (at + 1)) r))
    where
      same : (r : ℕ) → Dec (8 * at ≤ r) → Dec (8 * (at + 1) ≤ r) → in_table (8 * at) bytes r ≡ in_table (8 * (at + 1)) bytes r
      same r (yes from) (yes past) = in_table_past (8 * at) r from ∙ sym (in_table_past (8 * (at + 1)) r past)
      same r (yes from) (no before) =
          in_table_past (8 * at) r from
          ∙ sym (in_table_below (8 * (at + 1)) r (omega (arith, before)) ∙ bit_false at r e (omega (arith, before)))
      same r (no before) d = in_table_below (8 * at) r (omega (arith, before)) ∙ sym (in_table_below (8 * (at + 1)) r (omega (arith, before)))
