-- `search::code_of` meets its contract: a negative number of 16 bits and 32,768 are a number of 15 bits. Assumes nothing.
use mathlib.Core.Path.{◌≡◌, ◌∙◌, ap}
use native.Mathlib.Omega.{arith}
use lib.Dec.{T}
use lib.IntN.{ℤ, pos, ◌+ℤ◌}
use lib.Signed.{non_neg, yes_non_neg, pos-nat_abs}
use mir.Syntax.{w16, w32}
use mir.Val.{to_z, of_z, SFits}
use mir.Facts.{to_z-of_z, Fits-nat_abs}
use Rattle.numbers.proofs.Int.{integers, parts_add, size_add, one_part}
use Rattle.numbers.proofs.Widths.{fits_size, size_fits, wide_fits, wide_back}
use Rattle.search.proofs.search.code_of.Goals as goal
use Rattle.search.proofs.search.code_of.Goals.{Start}

pub overflow_cast-result : goal.overflow_cast-result
overflow_cast-result c = wide_fits tt c.ranges.key

-- the code, as an integer
abbrev code : Start → ℤ
code c = c.args.key +ℤ pos 32768

code_fits : (c : Start) → SFits w32 (code c)
code_fits c = size_fits (omega (arith, size_add c.args.key (pos 32768), fits_size c.ranges.key))

code_nonneg : (c : Start) → T (non_neg (code c))
code_nonneg c =
    let key = c.args.key in
    yes_non_neg {z = code c} (omega (integers, c.requires, parts_add key (pos 32768), fits_size c.ranges.key, one_part key))

widened : (c : Start) → to_z w32 (of_z w32 (to_z w16 (of_z w16 c.args.key))) +ℤ pos 32768 ≡ code c
widened c = ap (λ (z : ℤ). z +ℤ pos 32768) (wide_back w32 tt c.ranges.key)

pub overflow_add-result : goal.overflow_add-result
overflow_add-result c = rw (widened c) (code_fits c)

made : (c : Start) → to_z w32 (of_z w32 (to_z w32 (of_z w32 (to_z w16 (of_z w16 c.args.key))) +ℤ pos 32768)) ≡ code c
made c = to_z-of_z (overflow_add-result c) ∙ widened c

pub overflow_cast-result-2 : goal.overflow_cast-result-2
overflow_cast-result-2 c = rw (made c) (code_nonneg c, Fits-nat_abs tt (code_fits c))

pub returns : goal.returns
returns c = rw (made c) (pos-nat_abs (code c) (code_nonneg c))
