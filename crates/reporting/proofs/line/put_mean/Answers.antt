-- `line::put_mean` meets its contract: the whole part, a point and the tenths are written one behind the other, or a dash. Assumes nothing.
use mathlib.Core.Path.{◌≡◌, refl}
use mathlib.Core.List.{List, [], ◌∷◌, ◌++◌}
use Prim.Native.Nat.{ℕ, zero, suc, ◌+◌, ◌/◌, ◌%◌, ◌≤◌, ◌<◌}
use native.Mathlib.Omega.{arith}
use lib.ListN.{length}
use Rattle.text.specs.Text.{decimal}
use Rattle.reporting.specs.Lines.{mean_tenths, mean_text}
use Rattle.text.proofs.FieldWriting.{Left, all_left, next_left}
use Rattle.reporting.proofs.line.put_mean.Goals as goal

abbrev point : List ℕ
point = 46 ∷ []

-- the fields of a mean in tenths
abbrev whole : ℕ → List ℕ
whole x = decimal (x / 10)

abbrev tenths : ℕ → List ℕ
tenths x = decimal (x % 10)

mean_parts : (gates sum x : ℕ) → 0 < gates → x ≡ mean_tenths gates sum → mean_text gates sum ≡ whole x ++ (point ++ tenths x)
mean_parts zero sum x h e = absurd (omega arith)
mean_parts (suc gates) sum x h e = rw e refl

-- what is left at first
at_whole : (out : List ℕ) (at gates sum x : ℕ) → 0 < gates → x ≡ mean_tenths gates sum → at + length (mean_text gates sum) ≤ length out
    → Left out at (mean_text gates sum) out at (whole x ++ (point ++ tenths x))
at_whole out at gates sum x h e room = rw (← mean_parts gates sum x h e) (all_left out at (mean_text gates sum) room)

pub returns : goal.returns
returns c =
    let a = c.args in
    let x = c.mean_tenths-tenths.result in
    let first = at_whole a.out.now a.at a.gates a.sum x (omega arith) c.mean_tenths-tenths.ensures c.requires.2 in
    let at_point = next_left (whole x) (point ++ tenths x) first c.put_decimal-here.ensures in
    (next_left point (tenths x) at_point c.put_byte-here.ensures).done c.put_decimal.ensures
