-- `chow::chow_at` meets its contract. The counts are at most 256, so that each number of the difference is read back from its 32 bits.
-- Assumes nothing.
use mathlib.Core.List.{List}
use mathlib.Core.Path.{◌≡◌, sym, ◌∙◌, ap₂}
use Prim.Native.Nat.{ℕ, ◌+◌, ◌*◌, ◌≤◌, ◌<◌}
use native.Mathlib.Omega.{arith}
use lib.ListN.{get_or}
use lib.IntN.{pos, ◌-ℤ◌, ◌*ℤ◌}
use mir.Syntax.{w32}
use mir.Val.{SFits, to_z, of_z}
use mir.Facts.{to_z_pos, to_z-of_z}
use Rattle.numbers.proofs.Int.{parts_sub, parts_fits}
use Rattle.table.specs.Chow.{true_rows}
use Rattle.sides.proofs.SideLaws.{sum_at}
use Rattle.sides.proofs.ChowLaws.{true_rows_le, chow_at_inside, chow_at_past}
use Rattle.types.specs.declared.table.Table.{Table}
use Rattle.numbers.specs.Tabulate.{tabulate}
use Rattle.sides.proofs.chow.chow_at.Goals as goal

-- 2x − y fits 32 bits
difference_fits : (x y : ℕ) → x ≤ 256 → y ≤ 256 → SFits w32 (pos (2 * x) -ℤ pos y)
difference_fits x y h k = parts_fits (omega (arith, parts_sub (pos (2 * x)) (pos y)))

-- 2x − y as code computes it
on_bits : (x y : ℕ) → x ≤ 256 → y ≤ 256 → to_z w32 (of_z w32 (pos 2 *ℤ to_z w32 x)) -ℤ to_z w32 y ≡ pos (2 * x) -ℤ pos y
on_bits x y h k =
    rw (to_z_pos w32 {n = x} (omega arith), to_z_pos w32 {n = 2 * x} (omega arith), to_z_pos w32 {n = y} (omega arith))

pub returns-then-table-place : goal.returns-then-table-place
returns-then-table-place c = sym (chow_at_past c.args.table c.args.place c.if-table-place.true)

module _ (table : Table) (ps : List ℕ) (few : table.n ≤ 8) (is : ps ≡ tabulate 9 (true_rows table)) where
  -- p of an input, as the code finds it
  abbrev p : ℕ → ℕ
  p i = get_or ps i 0

  p_is : (i : ℕ) → i < 9 → p i ≡ true_rows table i
  p_is i h = sum_at (true_rows table) i is h

  p_le : (i : ℕ) → i < 9 → p i ≤ 256
  p_le i h = omega (arith, p_is i h, true_rows_le table i few)

  -- each fits 32 bits
  p_fits : (i : ℕ) → i < 9 → SFits w32 (pos (p i))
  p_fits i h = record { sfits = omega (arith, p_le i h) }

  -- and so does the double of one, as code computes it
  double_fits : (i : ℕ) → i < 9 → SFits w32 (pos 2 *ℤ to_z w32 (p i))
  double_fits i h = let le = p_le i h in rw (to_z_pos w32 {n = p i} (omega arith)) (record { sfits = omega arith })

  -- and the difference of any two
  differ : (i k : ℕ) → i < 9 → k < 9 → SFits w32 (to_z w32 (of_z w32 (pos 2 *ℤ to_z w32 (p i))) -ℤ to_z w32 (p k))
  differ i k h l = rw (on_bits (p i) (p k) (p_le i h) (p_le k l)) (difference_fits (p i) (p k) (p_le i h) (p_le k l))

  -- the difference, read back from its bits
  differ_back : (i k : ℕ) → i < 9 → k < 9
      → to_z w32 (of_z w32 (to_z w32 (of_z w32 (pos 2 *ℤ to_z w32 (p i))) -ℤ to_z w32 (p k)))
      ≡ pos (2 * true_rows table i) -ℤ pos (true_rows table k)
  differ_back i k h l =
      to_z-of_z {w = w32} (differ i k h l)
      ∙ on_bits (p i) (p k) (p_le i h) (p_le k l)
      ∙ ap₂ (λ (x y : ℕ). pos (2 * x) -ℤ pos y) (p_is i h) (p_is k l)

pub overflow_cast-with : goal.overflow_cast-with
overflow_cast-with c = p_fits c.args.table c.args.p c.requires.0 c.requires.2 (c.args.place + 1) (omega (arith, c.requires.1))

pub overflow_cast-all : goal.overflow_cast-all
overflow_cast-all c = p_fits c.args.table c.args.p c.requires.0 c.requires.2 0 (omega arith)

pub overflow_mul-result : goal.overflow_mul-result
overflow_mul-result c = double_fits c.args.table c.args.p c.requires.0 c.requires.2 (c.args.place + 1) (omega (arith, c.requires.1))

pub overflow_sub-result : goal.overflow_sub-result
overflow_sub-result c = differ c.args.table c.args.p c.requires.0 c.requires.2 (c.args.place + 1) 0 (omega (arith, c.requires.1)) (omega arith)

pub returns : goal.returns
returns c =
    let a = c.args in
    differ_back a.table a.p c.requires.0 c.requires.2 (a.place + 1) 0 (omega (arith, c.requires.1)) (omega arith)
    ∙ sym (chow_at_inside a.table a.place c.if-table-place.false)
