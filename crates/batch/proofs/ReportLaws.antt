-- The lines of a report one after another are the report, and come to an end; its numbers stay within their bounds along the way. Assumes
-- nothing.
use Rattle.std.specs.Prelude.{Ok, Err}
use mathlib.Core.Path.{◌≡◌, refl, ap}
use mathlib.Core.Bool.{Bool, true, false, cond}
use mathlib.Core.List.{List, [], ◌++◌, append-nil}
use Prim.Native.Nat.{ℕ, zero, suc, ◌+◌, ◌≤◌, ◌<◌}
use native.Mathlib.Omega.{arith}
use lib.Dec.{ltb}
use lib.ListN.{length}
use borrow.Author.Tests.{ltb-true, lt-ltb, le-ltb}
use Rattle.types.specs.declared.stage.Stage.{Stage}
use Rattle.types.specs.declared.stage.Stage.TheVariants.{Open, Found, Looped, Binate}
use Rattle.job.specs.Sound.{cap}
use Rattle.codec.specs.Field.{Field, Reading}
use Rattle.types.specs.declared.table.Table.{Table}
use Rattle.codec.specs.TableField.{table_record_at}
use Rattle.codec.proofs.TableFieldLaws.{record_read}
use Rattle.reporting.specs.declared.tally.Tally.{Tally}
use Rattle.reporting.specs.Lines.{last_line, too_long_line}
use Rattle.reporting.specs.Report.{input_most, no_tally, counted, record_then, report_from, report}
use Rattle.job.specs.Machine.{decided}
use Rattle.job.proofs.DecidedLaws.{decided_capped}
use Rattle.batch.specs.declared.progress.Phase.{Phase}
use Rattle.batch.specs.declared.progress.Phase.TheVariants.{Records, Last, Done}
use Rattle.batch.specs.declared.progress.Progress.{Progress}
use Rattle.batch.specs.Progress.{Advance, progress, start, Bounded, advance_by, last_of, advance_in, advance, lines_from, after}

-- ---- the lines are the report

-- so many lines from there are a text, and the report is then done
record Comes (m : ℕ) (s : List ℕ) (p : Progress) (text : List ℕ) : Type 0 where
  lines : lines_from m s p ≡ text
  done : (after m s p).phase ≡ Done

-- one line, and what comes after it
comes_next : (m : ℕ) (s : List ℕ) (p : Progress) (a : Advance) (text : List ℕ) → advance s p ≡ a → Comes m s a.next text → Comes (suc m) s p (a.line ++ text)
unfolding lines_from after
comes_next m s p a text e c = rw (← e) (record { lines = ap (λ (l : List ℕ). (advance s p).line ++ l) (rw (← e) at c.lines); done = rw (← e) at c.done })

module _ (s : List ℕ) where
  comes_done : (m at : ℕ) (t : Tally) → Comes m s (progress at t Done) []
  unfolding lines_from after advance
  comes_done zero at t = record { lines = refl; done = refl }
  comes_done (suc m) at t = comes_next m s (progress at t Done) (record { line = []; next = progress at t Done }) [] refl (comes_done m at t)

  -- where the next line is the last one, it is all that comes
  comes_last : (m : ℕ) (p : Progress) → 1 ≤ m → advance s p ≡ last_of p.at p.tally → Comes m s p (last_line p.tally)
  comes_last zero p l e = absurd (omega arith)
  comes_last (suc m) p l e = rw (← append-nil (last_line p.tally)) (comes_next m s p (last_of p.at p.tally) [] e (comes_done m p.at p.tally))

  -- the record at a position and what comes after it, or its refusal and the last line
  comes_record : (rest : ℕ → Tally → List ℕ) (m at : ℕ) (t : Tally) (r : Reading Table) → 1 ≤ m → advance s (progress at t Records) ≡ advance_by at t r
      → ((f : Field Table) (u : Tally) → r ≡ Ok f → Comes m s (progress f.next u Records) (rest f.next u))
      → Comes (suc m) s (progress at t Records) (record_then rest t r)
  unfolding advance
  comes_record rest m at t (Err n) l e later =
      comes_next m s (progress at t Records) (advance_by at t (Err n)) (last_line t) e (comes_last m (progress at t Last) l refl)
  comes_record rest m at t (Ok f) l e later =
      let next = (advance_by at t (Ok f)).next in
      comes_next m s (progress at t Records) (advance_by at t (Ok f)) (rest next.at next.tally) e (later f next.tally refl)

  -- from a position on: each record takes one byte of the input at least, and two lines may follow the last of them
  comes : (left m at : ℕ) (t : Tally) → at ≤ length s → length s ≤ at + left → length s + 2 ≤ at + m → Comes m s (progress at t Records) (report_from left s at t)
  unfolding report_from advance
  comes zero m at t a l k = comes_last m (progress at t Records) (omega arith) (rw (le-ltb at (length s) (omega arith)))
  comes (suc left) zero at t a l k = absurd (omega arith)
  comes (suc left) (suc m) at t a l k =
      by (ltb at (length s)) refl
      (λ f u e. let forward = (record_read s at f e).forward in comes left m f.next u (record_read s at f e).within (omega arith) (omega arith))
    where
      rest : ℕ → Tally → List ℕ
      rest = report_from left s

      by : (b : Bool) → ltb at (length s) ≡ b → ((f : Field Table) (u : Tally) → table_record_at s at ≡ Ok f → Comes m s (progress f.next u Records) (rest f.next u))
          → Comes (suc m) s (progress at t Records) (cond b (record_then rest t (table_record_at s at)) (last_line t))
      by true e later = comes_record rest m at t (table_record_at s at) (omega (arith, ltb-true at (length s) e)) (rw e) later
      by false e later = comes_last (suc m) (progress at t Records) (omega arith) (rw e)

  whole : (m : ℕ) → length s + 2 ≤ m → Comes m s start (report_from (length s) s 0 no_tally)
  whole m h = comes (length s) m 0 no_tally (omega arith) (omega arith) (omega arith)

  -- the lines one after another are the report
  pub lines_are_report : length s ≤ input_most → (m : ℕ) → length s + 2 ≤ m → lines_from m s start ≡ report s
  unfolding report
  lines_are_report l m h = rw (le-ltb input_most (length s) l) (whole m h).lines

  -- and then it is done
  pub ends : (m : ℕ) → length s + 2 ≤ m → (after m s start).phase ≡ Done
  ends m h = (whole m h).done

  -- of an input that is too long, the report is one line
  pub too_long : input_most < length s → report s ≡ too_long_line
  unfolding report
  too_long h = rw (lt-ltb input_most (length s) h)

-- ---- the numbers of a report

-- the numbers of the start are within their bounds
pub bounded_start : Bounded start
bounded_start = omega arith

-- so they are after one record more, further on
bounded_counted : (p : Progress) (next : ℕ) (stage : Stage) (k : ℕ) → Bounded p → p.at < next → next ≤ input_most → k ≤ cap
    → Bounded (progress next (counted stage k p.tally) Records)
bounded_counted p next Open k b f n c = omega arith
bounded_counted p next Found k b f n c = omega arith
bounded_counted p next Looped k b f n c = omega arith
bounded_counted p next Binate k b f n c = omega arith

-- and after every line
pub bounded_next : (s : List ℕ) (p : Progress) → length s ≤ input_most → Bounded p → Bounded (advance s p).next
unfolding advance
bounded_next s p l b = by p.phase
  where
    by_record : (r : Reading Table) → table_record_at s p.at ≡ r → Bounded (advance_by p.at p.tally r).next
    by_record (Err n) e = omega arith
    by_record (Ok f) e =
        let t = f.value in
        bounded_counted p f.next (decided t).state.stage (decided t).state.k b
        (record_read s p.at f e).forward
        (omega (arith, (record_read s p.at f e).within))
        (decided_capped t (record_read s p.at f e).taken)

    by_test : (a : Bool) → Bounded (cond a (advance_by p.at p.tally (table_record_at s p.at)) (last_of p.at p.tally)).next
    by_test true = by_record (table_record_at s p.at) refl
    by_test false = omega arith

    by : (phase : Phase) → Bounded (advance_in phase s p).next
    by Records = by_test (ltb p.at (length s))
    by Last = omega arith
    by Done = b
