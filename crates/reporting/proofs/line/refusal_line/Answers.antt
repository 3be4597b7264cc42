-- `line::refusal_line` meets its contract: the position, R, the number and a line feed are written one behind the other. Assumes nothing.
use mathlib.Core.List.{List, [], ◌∷◌, ◌++◌}
use Prim.Native.Nat.{ℕ, ◌≤◌}
use native.Mathlib.Omega.{arith}
use lib.ListN.{length}
use Rattle.text.specs.Text.{decimal, spaced, line_feed}
use Rattle.reporting.specs.Lines.{line_room, refusal_line}
use Rattle.text.proofs.FieldWriting.{Left, all_left, next_left}
use Rattle.reporting.proofs.RoomLaws.{refusal_room}
use Rattle.reporting.proofs.line.refusal_line.Goals as goal

-- the fields, and the line from R on
abbrev letter : List ℕ
letter = spaced (82 ∷ [])

abbrev number : ℕ → List ℕ
number n = spaced (decimal n)

abbrev from_letter : ℕ → List ℕ
from_letter n = letter ++ (number n ++ line_feed)

-- what is left at first
at_position : (out : List ℕ) (position n : ℕ) → line_room ≤ length out
    → Left out 0 (refusal_line position n) out 0 (decimal position ++ from_letter n)
unfolding refusal_line
at_position out position n room = all_left out 0 (refusal_line position n) (omega (arith, refusal_room position n))

pub returns-clause-put : goal.returns-clause-put
returns-clause-put c =
    let a = c.args in
    let at_letter = next_left (decimal a.position) (from_letter a.number) (at_position a.out.now a.position a.number c.requires) c.put_decimal-here.ensures in
    let at_number = next_left letter (number a.number ++ line_feed) at_letter c.put_letter-here.ensures in
    (next_left (number a.number) line_feed at_number c.put_number-here.ensures).done c.put_byte.ensures
