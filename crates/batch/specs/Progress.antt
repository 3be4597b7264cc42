-- A report line by line (document 01, "Kinds, Chow, report"). Definitions only. Assumes nothing.
use Rattle.types.specs.declared.refusal.Refusal.{Refusal}
use Rattle.types.specs.Refusal.{number_of}
use Rattle.std.specs.Prelude.{◌≡◌, Bool, true, false, cond, List, [], ◌++◌, ℕ, zero, suc, ◌+◌, ◌*◌, ◌≤◌, ltb, length, Ok, Err}
use Rattle.job.specs.Sound.{cap}
use Rattle.types.specs.declared.table.Table.{Table}
use Rattle.codec.specs.Field.{Field, Reading}
use Rattle.codec.specs.Written.{Put}
use Rattle.codec.specs.TableField.{table_record_at}
use Rattle.reporting.specs.declared.tally.Tally.{Tally}
use Rattle.reporting.specs.Lines.{record_line, refusal_line, last_line}
use Rattle.job.specs.Machine.{decided}
use Rattle.reporting.specs.Report.{input_most, no_tally, counted}
use Rattle.batch.specs.declared.progress.Phase.{Phase}
use Rattle.batch.specs.declared.progress.Phase.TheVariants.{Records, Last, Done}
use Rattle.batch.specs.declared.progress.Progress.{Progress}
use Rattle.batch.specs.declared.line.Line.{Line}

-- a line, and how far the report is after it
pub record Advance : Type 0 where
  pub line : List ℕ
  pub next : Progress

-- a line was made: it stands at the start of the buffer, and the rest is as it was
abbrev pub Made : Advance → (old new : List ℕ) → Line → Type 0
Made a old new r = Put old 0 a.line new r.length × (r.next ≡ a.next)

abbrev pub progress : ℕ → Tally → Phase → Progress
progress at t phase = record { at = at; tally = t; phase = phase }

abbrev pub start : Progress
start = progress 0 no_tally Records

-- whether no line is left
abbrev pub is_done : Phase → Bool
is_done Records = false
is_done Last = false
is_done Done = true

-- the numbers of a report that started at the start: each record took a byte of the input at least, and its K is at most the cap
pub record Bounded (p : Progress) : Type 0 where
  pub within : p.at ≤ input_most
  pub records : p.tally.records ≤ p.at
  pub gates : p.tally.gates ≤ p.tally.records
  pub witnesses : p.tally.witnesses ≤ p.tally.records
  pub opens : p.tally.opens ≤ p.tally.records
  pub sum : p.tally.sum ≤ cap * p.tally.records

-- the line of a refusal
abbrev pub refusal_of : ℕ → Tally → Refusal → Advance
refusal_of at t e = record { line = refusal_line (t.records + 1) (number_of e); next = progress at t Last }

-- the line of a table that was read
abbrev pub decided_of : Tally → Field Table → Advance
decided_of t f =
    record { line = record_line (t.records + 1) (decided f.value); next = progress f.next (counted (decided f.value).state.stage (decided f.value).state.k t) Records }

-- the line of the record at a position, or of its refusal
abbrev pub advance_by : ℕ → Tally → Reading Table → Advance
advance_by at t (Err e) = refusal_of at t e
advance_by at t (Ok f) = decided_of t f

-- the last line
abbrev pub last_of : ℕ → Tally → Advance
last_of at t = record { line = last_line t; next = progress at t Done }

abbrev pub advance_in : Phase → List ℕ → Progress → Advance
advance_in Records s p = cond (ltb p.at (length s)) (advance_by p.at p.tally (table_record_at s p.at)) (last_of p.at p.tally)
advance_in Last s p = last_of p.at p.tally
advance_in Done s p = record { line = []; next = p }

unfoldable pub advance : List ℕ → Progress → Advance
advance s p = advance_in p.phase s p

-- so many lines, one after another
unfoldable pub lines_from : ℕ → List ℕ → Progress → List ℕ
lines_from zero s p = []
lines_from (suc m) s p = (advance s p).line ++ lines_from m s (advance s p).next

-- how far the report is after so many lines
unfoldable pub after : ℕ → List ℕ → Progress → Progress
after zero s p = p
after (suc m) s p = after m s (advance s p).next
