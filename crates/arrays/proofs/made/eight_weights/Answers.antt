-- `made::eight_weights` meets its contract. Assumes nothing.
use lib.IntN.{pos}
use Rattle.arrays.proofs.CopyLaws.{copied_padded}
use Rattle.arrays.proofs.made.eight_weights.Goals as goal

pub returns : goal.returns
returns c = copied_padded (pos 0) c.args.weights.now 8 c.copy_from_slice.ensures.after c.requires
