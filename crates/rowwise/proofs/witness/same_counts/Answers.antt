-- `witness::same_counts` meets its contract: equal arrays are those with the same counts. Assumes nothing.
use borrow.Author.Rules.{rules}
use Rattle.std.proofs.lemmas.Bool.Decides.{same_from_decides}
use Rattle.std.proofs.lemmas.Slice.Eq.{slice_eq-Decides}
use Rattle.std.proofs.lemmas.Bool.Decides.{Decides-eqb}
use Rattle.function.proofs.CountLaws.{same_counts_correct}
use Rattle.rowwise.proofs.witness.same_counts.Goals as goal

pub returns : goal.returns
returns c =
    let a = c.args in
    same_from_decides _ _ (slice_eq-Decides Decides-eqb a.x.now a.y.now c.eq.result c.eq.ensures) (same_counts_correct a.x.now a.y.now (search rules) (search rules))
