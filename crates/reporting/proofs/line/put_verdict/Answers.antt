-- `line::put_verdict` meets its contract: in each stage the verdict's text is written. Assumes nothing.
use mathlib.Core.Path.{◌≡◌}
use mathlib.Core.List.{List, [], ◌∷◌, ◌++◌}
use Prim.Native.Nat.{ℕ, ◌+◌, ◌≤◌}
use lib.ListN.{length}
use Rattle.types.specs.declared.stage.Stage.{Stage}
use Rattle.types.specs.declared.stage.Stage.TheVariants.{Open}
use Rattle.job.specs.declared.job.Job.{Job}
use Rattle.text.specs.Text.{decimal, spaced}
use Rattle.reporting.specs.Lines.{open_text, verdict_text}
use Rattle.text.proofs.FieldWriting.{Left, all_left, next_left}
use Rattle.reporting.proofs.line.put_verdict.Goals as goal

-- the room for the text of a stage that the job is in
room : (out : List ℕ) (at : ℕ) (j : Job) {x : Stage} → at + length (verdict_text j.state.stage j) ≤ length out → j.state.stage ≡ x
    → at + length (verdict_text x j) ≤ length out
room out at j h e = rw (← e) h

-- the fields of an open job's text
abbrev letter : List ℕ
letter = spaced (83 ∷ [])

abbrev number : Job → List ℕ
number j = spaced (decimal j.state.k)

-- what is left of it at first
at_letter : (out : List ℕ) (at : ℕ) (j : Job) → at + length (verdict_text j.state.stage j) ≤ length out → j.state.stage ≡ Open
    → Left out at (verdict_text j.state.stage j) out at (letter ++ number j)
unfolding open_text
at_letter out at j h e = rw e (all_left out at (verdict_text Open j) (room out at j h e))

pub returns-in-Open : goal.returns-in-Open
returns-in-Open c =
    let a = c.args in
    (next_left letter (number a.job) (at_letter a.out.now a.at a.job c.requires.1 c.in-Open.is) c.put_letter-here.ensures).done c.put_number.ensures
