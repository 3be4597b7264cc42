-- `line::last_line` meets its contract: the records, the numbers of G, N and S, the mean and a line feed are written one behind the other.
-- Assumes nothing.
use mathlib.Core.List.{List, [], ◌∷◌, ◌++◌}
use Prim.Native.Nat.{ℕ, ◌≤◌}
use native.Mathlib.Omega.{arith}
use lib.ListN.{length}
use Rattle.text.specs.Text.{decimal, spaced, line_feed}
use Rattle.reporting.specs.declared.tally.Tally.{Tally}
use Rattle.reporting.specs.Lines.{line_room, mean_text, last_line}
use Rattle.text.proofs.FieldWriting.{Left, all_left, next_left}
use Rattle.reporting.proofs.RoomLaws.{last_room}
use Rattle.reporting.proofs.line.last_line.Goals as goal

-- the fields
abbrev number : ℕ → List ℕ
number n = spaced (decimal n)

abbrev space : List ℕ
space = 32 ∷ []

abbrev mean : Tally → List ℕ
mean t = mean_text t.gates t.sum

-- the line from each field on
abbrev from_mean : Tally → List ℕ
from_mean t = mean t ++ line_feed

abbrev from_space : Tally → List ℕ
from_space t = space ++ from_mean t

abbrev from_opens : Tally → List ℕ
from_opens t = number t.opens ++ from_space t

abbrev from_witnesses : Tally → List ℕ
from_witnesses t = number t.witnesses ++ from_opens t

abbrev from_gates : Tally → List ℕ
from_gates t = number t.gates ++ from_witnesses t

-- what is left at first
at_records : (out : List ℕ) (t : Tally) → line_room ≤ length out → Left out 0 (last_line t) out 0 (decimal t.records ++ from_gates t)
unfolding last_line
at_records out t room = all_left out 0 (last_line t) (omega (arith, last_room t))

pub returns-clause-put : goal.returns-clause-put
returns-clause-put c =
    let t = c.args.tally in
    let at_gates = next_left (decimal t.records) (from_gates t) (at_records c.args.out.now t c.requires.1) c.put_decimal-here.ensures in
    let at_witnesses = next_left (number t.gates) (from_witnesses t) at_gates c.put_number-here.ensures in
    let at_opens = next_left (number t.witnesses) (from_opens t) at_witnesses c.put_number-here-2.ensures in
    let at_space = next_left (number t.opens) (from_space t) at_opens c.put_number-here-3.ensures in
    let at_mean = next_left space (from_mean t) at_space c.put_byte-here.ensures in
    (next_left (mean t) line_feed at_mean c.put_mean-here.ensures).done c.put_byte.ensures
