-- `made::all_counts` meets its contract. Assumes nothing.
use Prim.Native.Nat.{ℕ}
use Rattle.arrays.proofs.CopyLaws.{copied_padded}
use Rattle.arrays.proofs.made.all_counts.Goals as goal

pub returns : goal.returns
returns c = copied_padded {A = ℕ} 0 c.args.counts.now 256 c.copy_from_slice.ensures.after c.requires
