-- What filling a buffer with the lines of a report gives. Definitions only. Assumes nothing.
use Rattle.std.specs.Prelude.{◌≡◌, false, List, ℕ, ◌≤◌, length}
use Rattle.codec.specs.Written.{Put}
use Rattle.batch.specs.declared.progress.Progress.{Progress}
use Rattle.batch.specs.declared.lines.Lines.{Lines}
use Rattle.batch.specs.Progress.{is_done, Bounded, lines_from, after}

-- of the report of s, as far as p: so many lines from the start of the buffer on, of a length within it, and how far the report is after
-- them; at least one, unless the report was done
pub record Filled (s : List ℕ) (p : Progress) (old new : List ℕ) (r : Lines) : Type 0 where
  pub stand : Put old 0 (lines_from r.count s p) new r.length
  pub fits : r.length ≤ length old
  pub next : r.next ≡ after r.count s p
  pub bounded : Bounded r.next
  pub some : is_done p.phase ≡ false → 1 ≤ r.count
