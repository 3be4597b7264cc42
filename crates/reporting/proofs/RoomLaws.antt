-- The last line and the line of a refusal fit into the room of a line and leave room for a number, which has at most twenty digits. No line is
-- empty: it begins with a number. Assumes nothing.
use Prim.Native.Nat.{ℕ, zero, suc, ◌+◌, ◌/◌, ◌%◌, ◌≤◌}
use native.Mathlib.Omega.{arith}
use lib.ListN.{length, length-append}
use Rattle.reporting.specs.declared.tally.Tally.{Tally}
use Rattle.job.specs.declared.job.Job.{Job}
use Rattle.reporting.specs.Lines.{line_room, record_line, refusal_line, mean_tenths, mean_text, last_line}
use Rattle.text.proofs.DecimalLaws.{decimal_twenty, decimal_some}

-- the line of a refusal
pub refusal_room : (position number : ℕ) → length (refusal_line position number) + 21 ≤ line_room
unfolding refusal_line
refusal_room position number = simp length-append (omega (arith, decimal_twenty position, decimal_twenty number))

-- two numbers and the point
pub mean_most : (gates sum : ℕ) → length (mean_text gates sum) ≤ 41
mean_most zero sum = omega arith
mean_most (suc gates) sum =
    let tenths = mean_tenths (suc gates) sum in
    rw length-append (omega (arith, decimal_twenty (tenths / 10), decimal_twenty (tenths % 10)))

-- the last line
pub last_room : (t : Tally) → length (last_line t) + 21 ≤ line_room
unfolding last_line
last_room t =
    simp length-append
    (omega (arith, decimal_twenty t.records, decimal_twenty t.gates, decimal_twenty t.witnesses, decimal_twenty t.opens, mean_most t.gates t.sum))

-- ---- no line is empty

pub record_some : (position : ℕ) (j : Job) → 1 ≤ length (record_line position j)
unfolding record_line
record_some position j = rw length-append (omega (arith, decimal_some position))

pub refusal_some : (position number : ℕ) → 1 ≤ length (refusal_line position number)
unfolding refusal_line
refusal_some position number = rw length-append (omega (arith, decimal_some position))

pub last_some : (t : Tally) → 1 ≤ length (last_line t)
unfolding last_line
last_some t = rw length-append (omega (arith, decimal_some t.records))
