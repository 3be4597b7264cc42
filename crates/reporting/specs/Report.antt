-- A whole report (document 01, "Kinds, Chow, report"). Definitions only. Assumes nothing.
use Rattle.std.specs.Prelude.{cond, List, ◌++◌, ℕ, zero, suc, ◌+◌, ◌*◌, ◌≤◌, ltb, length, Ok, Err}
use Rattle.types.specs.Refusal.{number_of}
use Rattle.types.specs.declared.stage.Stage.{Stage}
use Rattle.types.specs.declared.stage.Stage.TheVariants.{Open, Found, Looped, Binate}
use Rattle.job.specs.Machine.{decided}
use Rattle.job.specs.Sound.{cap}
use Rattle.codec.specs.Field.{Reading}
use Rattle.types.specs.declared.table.Table.{Table}
use Rattle.codec.specs.TableField.{table_record_at}
use Rattle.reporting.specs.declared.tally.Tally.{Tally}
use Rattle.reporting.specs.Lines.{record_line, refusal_line, last_line, too_long_line}

-- the most bytes of an input
abbrev pub input_most : ℕ
input_most = 65536

-- the most that the K of its records add up to: each takes a byte at least, and its K is at most the cap
abbrev pub sum_most : ℕ
sum_most = cap * input_most

-- ---- the numbers of the last line

abbrev pub no_tally : Tally
no_tally = record { records = 0; gates = 0; witnesses = 0; opens = 0; sum = 0 }

-- one record more, by its job
abbrev pub counted : Stage → ℕ → Tally → Tally
counted Open k t = record { records = t.records + 1; gates = t.gates; witnesses = t.witnesses; opens = t.opens + 1; sum = t.sum }
counted Found k t = record { records = t.records + 1; gates = t.gates + 1; witnesses = t.witnesses; opens = t.opens; sum = t.sum + k }
counted Looped k t = record { records = t.records + 1; gates = t.gates; witnesses = t.witnesses + 1; opens = t.opens; sum = t.sum }
counted Binate k t = record { records = t.records + 1; gates = t.gates; witnesses = t.witnesses + 1; opens = t.opens; sum = t.sum }

-- the numbers of a tally of the records of an input
pub record Within (t : Tally) : Type 0 where
  pub records : t.records ≤ input_most
  pub gates : t.gates ≤ input_most
  pub witnesses : t.witnesses ≤ input_most
  pub opens : t.opens ≤ input_most
  pub sum : t.sum ≤ sum_most

-- ---- the whole report

-- the line of the record at a position, whose table gets one carry-on of 100,000, and then the rest; a refusal prints its line and ends reading, and the last line still follows
abbrev pub record_then : (ℕ → Tally → List ℕ) → Tally → Reading Table → List ℕ
record_then rest t (Err e) = refusal_line (t.records + 1) (number_of e) ++ last_line t
record_then rest t (Ok f) =
    record_line (t.records + 1) (decided f.value) ++ rest f.next (counted (decided f.value).state.stage (decided f.value).state.k t)

-- from a position on: records of kinds 1 and 5 one after another, at most so many
unfoldable pub report_from : ℕ → List ℕ → ℕ → Tally → List ℕ
report_from zero s at t = last_line t
report_from (suc left) s at t = let rest = record_then (report_from left s) t (table_record_at s at) in cond (ltb at (length s)) rest (last_line t)

-- the report of an input; of one above 65,536 bytes the only line is "R 15"
unfoldable pub report : List ℕ → List ℕ
report s = cond (ltb input_most (length s)) too_long_line (report_from (length s) s 0 no_tally)
