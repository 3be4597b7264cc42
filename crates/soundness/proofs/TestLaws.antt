-- The comparisons that code makes, of vectors and of counts whole, are the tests of the definitions. Assumes nothing.
use Rattle.std.proofs.Common.{◌≡◌, ◌&&◌, ℕ, List, length, eqb, ap}
use Rattle.std.specs.Ordering.{int_eq}
use Rattle.std.proofs.lemmas.Bool.Decides.{same_from_decides, Decides-int_eq, Decides-and, Decides-like}
use lib.Pointwise.{pointwise, pointwise_decides, bytes_decides}
use Rattle.types.specs.declared.vector.Vector.{Vector}
use Rattle.function.specs.Vector.{same_vector}
use Rattle.function.specs.Witness.{same_counts}
use Rattle.function.proofs.VectorLaws.{vector_eq, same_vector_correct}
use Rattle.function.proofs.CountLaws.{same_counts_correct}

-- the code's `==` of vectors
pub vectors_same : (v s : Vector) → same_vector v s ≡ (pointwise int_eq v.a s.a && int_eq v.b s.b)
vectors_same v s =
    same_from_decides _ _ (same_vector_correct v s)
    (Decides-like _ (λ e. vector_eq v s e.0 e.1) (λ e. (ap (λ (x : Vector). x.a) e, ap (λ (x : Vector). x.b) e))
    (Decides-and _ _ (pointwise_decides Decides-int_eq v.a s.a) (Decides-int_eq v.b s.b)))

-- the code's `==` of counts
pub counts_same : (xs ys : List ℕ) → length xs ≡ 256 → length ys ≡ 256 → same_counts xs ys ≡ pointwise eqb xs ys
counts_same xs ys n m = same_from_decides _ _ (same_counts_correct xs ys n m) (bytes_decides xs ys)
