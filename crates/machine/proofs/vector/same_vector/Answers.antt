-- `crate::vector::same_vector` meets its contract: equal vectors are those that pass the test. Assumes nothing.
use Rattle.std.proofs.Common.{refl, ◌∙◌, ap}
use Rattle.std.proofs.lemmas.Bool.Decides.{same_from_decides, Decides-and, Decides-int_eq}
use Rattle.std.proofs.lemmas.Slice.Eq.{slice_eq-Decides}
use Rattle.types.specs.declared.vector.Vector.{Vector}
use Rattle.function.proofs.VectorLaws.{vector_eq, same_vector_correct}
use Rattle.machine.proofs.vector.same_vector.Goals as goal

pub returns : goal.returns
returns c =
    let v = c.args.v in
    let s = c.args.s in
    let parts = Decides-and _ _ (slice_eq-Decides Decides-int_eq v.a s.a _ refl) (Decides-int_eq v.b s.b) in
    c.eq.ensures
    ∙ same_from_decides _ _ (
      λ e. vector_eq v s (parts.0 e).0 (parts.0 e).1,
      λ e. parts.1 (ap (λ (u : Vector). u.a) e, ap (λ (u : Vector). u.b) e),
    )
    (same_vector_correct v s)
