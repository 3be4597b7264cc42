-- How many lines a report has left at most: fewer with each line, until it is done; and a line that is made is not empty. Assumes nothing.
use Rattle.std.specs.Prelude.{Ok, Err}
use mathlib.Core.Path.{◌≡◌, refl, ap}
use mathlib.Core.Bool.{Bool, true, false, cond}
use mathlib.Core.List.{List}
use Prim.Native.Nat.{ℕ, zero, suc, ◌+◌, ◌-◌, ◌≤◌, ◌<◌}
use native.Mathlib.Omega.{arith}
use lib.Dec.{ltb}
use lib.ListN.{length}
use borrow.Author.Tests.{ltb-true}
use Rattle.codec.specs.Field.{Reading}
use Rattle.types.specs.Refusal.{number_of}
use Rattle.types.specs.declared.table.Table.{Table}
use Rattle.codec.specs.TableField.{table_record_at}
use Rattle.codec.proofs.TableFieldLaws.{record_read}
use Rattle.job.specs.Machine.{decided}
use Rattle.reporting.proofs.RoomLaws.{record_some, refusal_some, last_some}
use Rattle.batch.specs.declared.progress.Phase.{Phase}
use Rattle.batch.specs.declared.progress.Phase.TheVariants.{Records, Last, Done}
use Rattle.batch.specs.declared.progress.Progress.{Progress}
use Rattle.batch.specs.Progress.{Advance, is_done, advance_by, last_of, advance_in, advance, after}

-- each record takes a byte of the input at least; a refusal and the last line may follow
abbrev pub left_in : Phase → (bytes at : ℕ) → ℕ
left_in Records bytes at = bytes - at + 2
left_in Last bytes at = 1
left_in Done bytes at = 0

abbrev pub lines_left : List ℕ → Progress → ℕ
lines_left s p = left_in p.phase (length s) p.at

-- a line is not empty, and after it fewer are left
abbrev Moves : List ℕ → ℕ → Advance → Type 0
Moves s left a = (1 ≤ length a.line) × (lines_left s a.next < left)

module _ (s : List ℕ) (p : Progress) where
  by_record : (r : Reading Table) → table_record_at s p.at ≡ r → p.at < length s → Moves s (length s - p.at + 2) (advance_by p.at p.tally r)
  by_record (Err r) e h = (refusal_some (p.tally.records + 1) (number_of r), omega arith)
  by_record (Ok f) e h = (record_some (p.tally.records + 1) (decided f.value), omega (arith, (record_read s p.at f e).forward))

  by_test : (b : Bool) → ltb p.at (length s) ≡ b
      → Moves s (length s - p.at + 2) (cond b (advance_by p.at p.tally (table_record_at s p.at)) (last_of p.at p.tally))
  by_test true e = by_record (table_record_at s p.at) refl (ltb-true p.at (length s) e)
  by_test false e = (last_some p.tally, omega arith)

  by_phase : (phase : Phase) → is_done phase ≡ false → Moves s (left_in phase (length s) p.at) (advance_in phase s p)
  by_phase Records e = by_test (ltb p.at (length s)) refl
  by_phase Last e = (last_some p.tally, omega arith)
  by_phase Done e = absurd (let z : ◌≡◌ {A = ℕ} 0 1 = cc in omega arith)

  pub advance_moves : is_done p.phase ≡ false → Moves s (lines_left s p) (advance s p)
  unfolding advance
  advance_moves e = by_phase p.phase e

  -- a report that is done stays as it is
  advance_done : is_done p.phase ≡ true → (advance s p).next ≡ p
  unfolding advance
  advance_done e = by p.phase e
    where
      by : (phase : Phase) → is_done phase ≡ true → (advance_in phase s p).next ≡ p
      by Records h = absurd (let z : ◌≡◌ {A = ℕ} 0 1 = cc in omega arith)
      by Last h = absurd (let z : ◌≡◌ {A = ℕ} 0 1 = cc in omega arith)
      by Done h = refl

-- so there are fewer after some lines
left_most : (s : List ℕ) (m : ℕ) (p : Progress) → lines_left s (after m s p) ≤ lines_left s p
unfolding after
left_most s zero p = omega arith
left_most s (suc m) p = by (is_done p.phase) refl (left_most s m (advance s p).next)
  where
    by : (b : Bool) → is_done p.phase ≡ b → lines_left s (after m s (advance s p).next) ≤ lines_left s (advance s p).next
        → lines_left s (after m s (advance s p).next) ≤ lines_left s p
    by true e h = omega (arith, ap (lines_left s) (advance_done s p e))
    by false e h = omega (arith, (advance_moves s p e).1)

pub left_less : (s : List ℕ) (m : ℕ) (p : Progress) → 1 ≤ m → is_done p.phase ≡ false → lines_left s (after m s p) < lines_left s p
unfolding after
left_less s zero p h e = absurd (omega arith)
left_less s (suc m) p h e = omega (arith, left_most s m (advance s p).next, (advance_moves s p e).1)
