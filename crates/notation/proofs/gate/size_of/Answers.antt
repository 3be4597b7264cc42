-- `gate::size_of` meets its contract: what a place adds to the sum, and its size. Assumes nothing.
use mathlib.Core.Path.{◌≡◌, sym, ◌∙◌, ap}
use mathlib.Core.List.{List}
use Prim.Native.Nat.{ℕ, ◌+◌, ◌*◌, ◌^◌, ◌≤◌, ◌<◌}
use native.Mathlib.Numerals.{add-one}
use native.Mathlib.Omega.{arith}
use lib.ListN.{length, take, get_or}
use lib.Seq.{take_all}
use lib.IntN.{ℤ, pos, ◌+ℤ◌}
use mir.Syntax.{w32, w64}
use mir.Val.{to_z, of_z, SFits}
use mir.Facts.{to_z-of_z}
use borrow.Author.Rules.{rules}
use Rattle.numbers.proofs.Int.{up, dn, size_add}
use Rattle.numbers.proofs.Ring.{*ℤ_idl}
use Rattle.numbers.proofs.SumLaws.{weighted_sum_nil, weighted_sum_suc}
use Rattle.numbers.proofs.Widths.{fits_size, size_fits, wide_back}
use Rattle.notation.specs.GateText.{size}
use Rattle.notation.proofs.gate.size_of.Goals as goal
use Rattle.notation.proofs.gate.size_of.Invariants.{SumTo}

-- a place adds its weight
sum_next : (a : List ℤ) (place : ℕ) (z : ℤ) → place < length a → SFits w32 (get_or a place (pos 0)) → SumTo a place z
    → SumTo a (place + 1) (z +ℤ get_or a place (pos 0))
sum_next a place z h f (is, small) = (
  rw (add-one, weighted_sum_suc place a (λ place. 1), *ℤ_idl, is),
  omega (arith, size_add z (get_or a place (pos 0)), fits_size f),
)

-- the sum with a weight, read back from the bits to which the code writes it
sum_back : (z x : ℤ) → SFits w32 x → up z + dn z ≤ 8 * 2 ^ 31
    → to_z w64 (of_z w64 (z +ℤ to_z w64 (of_z w64 (to_z w32 (of_z w32 x))))) ≡ z +ℤ x
sum_back z x f h = rw (wide_back w64 tt f) (to_z-of_z {w = w64} (size_fits (omega (arith, size_add z x, fits_size f))))

pub loop-weight-init : goal.loop-weight-init
loop-weight-init c = (sym (weighted_sum_nil _), omega arith)

pub loop-weight-preserved : goal.loop-weight-preserved
loop-weight-preserved c =
    let ws = c.args.gate.weights in
    let place = c.loop-weight.weight-index in
    let count : length ws ≡ 8 = search rules in
    let z = to_z w64 c.loop-weight.sum-bits in
    let f : SFits w32 (get_or ws place (pos 0)) = search rules in
    let s = sum_next ws place z (omega arith) f c.loop-weight.invariant in
    rw (sum_back z (get_or ws place (pos 0)) f (omega (arith, c.loop-weight.invariant.1))) s

pub returns : goal.returns
unfolding size
returns c =
    let ws = c.args.gate.weights in
    let count : length ws ≡ 8 = search rules in
    let f : SFits w32 c.args.gate.threshold = search rules in
    let all : take c.loop-weight.weight-index ws ≡ ws = take_all c.loop-weight.weight-index ws (omega arith) in
    let sum = rw all at c.loop-weight.invariant.0 in
    sum_back (to_z w64 c.loop-weight.sum-bits) c.args.gate.threshold f (omega (arith, c.loop-weight.invariant.1)) ∙ ap (λ (s : ℤ). s +ℤ c.args.gate.threshold) sum
