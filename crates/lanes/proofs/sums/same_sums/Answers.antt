-- `sums::same_sums` meets its contract. Assumes nothing.
use mathlib.Core.Path.{◌≡◌, sym, ◌∙◌, ap}
use mathlib.Core.Bool.{false}
use mathlib.Core.List.{List}
use Prim.Native.Nat.{ℕ, ◌+◌, ◌<◌}
use native.Mathlib.Omega.{arith}
use lib.ListN.{get_or}
use lib.IntN.{ℤ, pos}
use mir.Syntax.{w16}
use mir.Val.{of_z}
use Rattle.numbers.proofs.TestLaws.{not_passed}
use Rattle.types.specs.declared.vector.Vector.{Vector}
use Rattle.function.specs.Vector.{same_vector}
use Rattle.function.proofs.VectorLaws.{same_vector_correct}
use Rattle.function.proofs.RangeLaws.{in_range_correct}
use Rattle.lanes.specs.Sums.{vector_sums}
use Rattle.lanes.proofs.WeightLaws.{sums_same}
use Rattle.std.proofs.lemmas.Bool.Decides.{same_from_decides}
use Rattle.std.specs.Cmp.Rules.{signed_items}
use lib.ListN.{take}
use lib.Seq.{get_or-take}
use Rattle.lanes.proofs.sums.same_sums.Goals as goal

-- vectors of which a sum differs are not equal
apart : {x y : List ℤ} (at : ℕ) → (of_z w16 (get_or x at (pos 0)) ≡ of_z w16 (get_or y at (pos 0)) → ⊥)
    → (v s : Vector) → x ≡ vector_sums v → y ≡ vector_sums s → false ≡ same_vector v s
apart at differ v s x-is y-is =
    let bits : List ℤ → ℕ = λ sums. of_z w16 (get_or sums at (pos 0)) in
    let equal : v ≡ s → ⊥ = λ e. differ (ap bits x-is ∙ ap (λ (u : Vector). bits (vector_sums u)) e ∙ sym (ap bits y-is)) in
    sym (not_passed (same_vector v s) (λ e. equal ((same_vector_correct v s).0 e)))

pub returns-then-x-y : goal.returns-then-x-y
returns-then-x-y c k v s long long-s range range-s = apart 31 c.if-x-y.true v s

-- vectors whose first sums agree are equal, and the first sums of equal vectors agree
pub returns : goal.returns
returns c k v s long long-s range range-s x-is y-is =
    let n = c.args.n in
    let count = 32 + c.block_count-count.result in
    let equal = same_vector_correct v s in
    same_from_decides _ _
    (rw (← c.eq.ensures) at (signed_items (take count c.args.x.now) (take count c.args.y.now))) (
      λ same. ap (take count) (x-is ∙ ap vector_sums (equal.0 same) ∙ sym y-is),
      λ agree.
          equal.1
          (sums_same v s k n long long-s
          ((in_range_correct k n v.a v.b).0 range)
          ((in_range_correct k n s.a s.b).0 range-s)
          (λ i l.
          let below : i < count = omega (arith, c.block_count-count.ensures) in
          ap (λ (l : List ℤ). get_or l i (pos 0)) (sym x-is) ∙ sym (get_or-take count c.args.x.now i (pos 0) below) ∙ ap (λ (l : List ℤ). get_or l i (pos 0)) agree ∙ get_or-take count c.args.y.now i (pos 0) below ∙ ap (λ (l : List ℤ). get_or l i (pos 0)) y-is)),
    )
