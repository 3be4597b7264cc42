-- `line::next_line` meets its contract: in each case the line that was made is the next one. Assumes nothing.
use mathlib.Core.Path.{◌≡◌, refl}
use mathlib.Core.List.{List}
use Prim.Native.Nat.{ℕ, ◌≤◌}
use native.Mathlib.Omega.{arith}
use lib.ListN.{length}
use Rattle.reporting.specs.Lines.{line_room}
use Rattle.reporting.specs.Report.{input_most}
use Rattle.batch.specs.declared.progress.Progress.{Progress}
use Rattle.batch.specs.declared.line.Line.{Line}
use Rattle.batch.specs.Progress.{Advance, Made, Bounded, advance}
use Rattle.batch.proofs.AdvanceLaws.{at_record, at_end_lem, at_last, at_done, made_by, made_bounded}
use Rattle.batch.proofs.line.next_line.Goals as goal

-- a line that was made in a case is the next one
module _ (s : List ℕ) (p : Progress) (out : List ℕ) (few : length s ≤ input_most) (bounded : Bounded p) where
  made : (a : Advance) (new : List ℕ) (r : Line) → a ≡ advance s p → Made a out new r → r.length ≤ line_room
      → Made (advance s p) out new r × (Bounded r.next × (r.length ≤ line_room))
  made a new r e given fits =
      let line = made_by out e given in
      (line, (made_bounded s p out few bounded line, fits))

pub returns-then-progress-input : goal.returns-then-progress-input
returns-then-progress-input c =
    let a = c.args in
    let call = c.record_or_refusal in
    let case = at_record a.input.now a.progress c.in-Records.is c.if-progress-input.true in
    let line = made a.input.now a.progress a.out.now c.requires.0 c.requires.1 _ _ call.result case call.ensures.made call.ensures.fits in
    record { made = line.0; bounded = line.1 }

pub returns-else-progress-input : goal.returns-else-progress-input
returns-else-progress-input c =
    let a = c.args in
    let call = c.last in
    let case = at_end_lem a.input.now a.progress c.in-Records.is c.if-progress-input.false in
    let line = made a.input.now a.progress a.out.now c.requires.0 c.requires.1 _ _ call.result case call.ensures.made call.ensures.fits in
    record { made = line.0; bounded = line.1 }

pub returns-in-Last : goal.returns-in-Last
returns-in-Last c =
    let a = c.args in
    let call = c.last-in-Last in
    let case = at_last a.input.now a.progress c.in-Last.is in
    let line = made a.input.now a.progress a.out.now c.requires.0 c.requires.1 _ _ call.result case call.ensures.made call.ensures.fits in
    record { made = line.0; bounded = line.1 }

pub returns-in-Done : goal.returns-in-Done
returns-in-Done c =
    let a = c.args in
    let case = at_done a.input.now a.progress c.in-Done.is in
    let line = made a.input.now a.progress a.out.now c.requires.0 c.requires.1 _ _ (record { length = 0; next = a.progress }) case ((refl, refl), refl) (omega arith) in
    record { made = line.0; bounded = line.1 }
