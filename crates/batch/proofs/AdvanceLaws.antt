-- The next line of a report by its cases, and what a function that made a line promises of it. Assumes nothing.
use mathlib.Core.Path.{◌≡◌, sym, ap, subst}
use mathlib.Core.List.{List, []}
use Prim.Native.Nat.{ℕ, ◌+◌, ◌≤◌, ◌<◌}
use lib.ListN.{length}
use borrow.Author.Tests.{lt-ltb, le-ltb}
use Rattle.job.specs.declared.job.Job.{Job}
use Rattle.codec.specs.Field.{Field}
use Rattle.codec.specs.Written.{Put}
use Rattle.types.specs.declared.table.Table.{Table}
use Rattle.codec.specs.TableField.{table_record_at}
use Rattle.reporting.specs.declared.tally.Tally.{Tally}
use Rattle.reporting.specs.Lines.{record_line}
use Rattle.job.specs.Machine.{decided}
use Rattle.reporting.specs.Report.{input_most, counted}
use Rattle.batch.specs.declared.progress.Phase.TheVariants.{Records, Last, Done}
use Rattle.batch.specs.declared.progress.Progress.{Progress}
use Rattle.batch.specs.declared.line.Line.{Line}
use Rattle.batch.specs.Progress.{Advance, Made, progress, Bounded, advance_by, decided_of, last_of, advance}
use Rattle.batch.proofs.ReportLaws.{bounded_next}

-- a line that was made by a case is the line
pub made_by : {a b : Advance} (old : List ℕ) {new : List ℕ} {r : Line} → a ≡ b → Made a old new r → Made b old new r
made_by old {new} {r} e made = subst (λ (x : Advance). Made x old new r) e made

-- the line of a record's job and the tally with it
pub record_made : (t : Tally) (f : Field Table) (old : List ℕ) {j : Job} {u : Tally} {n : ℕ} {new : List ℕ} → j ≡ decided f.value → u ≡ counted j.state.stage j.state.k t
    → Put old 0 (record_line (t.records + 1) j) new n → Made (decided_of t f) old new (record { length = n; next = progress f.next u Records })
record_made t f old e q put = rw (← e) (put, ap (λ (u : Tally). progress f.next u Records) q)

module _ (s : List ℕ) (p : Progress) where
  -- while bytes are left, the line of a record
  pub at_record : p.phase ≡ Records → p.at < length s → advance_by p.at p.tally (table_record_at s p.at) ≡ advance s p
  unfolding advance
  at_record e h = rw (e, lt-ltb p.at (length s) h)

  -- after the last record, the last line
  pub at_end_lem : p.phase ≡ Records → length s ≤ p.at → last_of p.at p.tally ≡ advance s p
  unfolding advance
  at_end_lem e h = rw (e, le-ltb p.at (length s) h)

  -- as after a refusal
  pub at_last : p.phase ≡ Last → last_of p.at p.tally ≡ advance s p
  unfolding advance
  at_last e = rw e

  -- and then nothing
  pub at_done : p.phase ≡ Done → record { line = []; next = p } ≡ advance s p
  unfolding advance
  at_done e = rw e

  -- after the next line, the numbers of the report are within their bounds
  pub made_bounded : (old : List ℕ) {new : List ℕ} {r : Line} → length s ≤ input_most → Bounded p → Made (advance s p) old new r → Bounded r.next
  made_bounded old l b made = subst Bounded (sym made.1) (bounded_next s p l b)
