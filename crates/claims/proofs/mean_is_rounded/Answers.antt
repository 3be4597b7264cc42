-- `claims::mean_is_rounded`: the laws of the mean, and document 02's two examples. Assumes nothing.
use mathlib.Core.Path.{refl}
use Rattle.text.specs.Text.{digits, decimal}
use Rattle.claims.proofs.Mean.{mean_near, mean_even}
use Rattle.claims.proofs.mean_is_rounded.Goals as goal

pub returns : goal.returns
unfolding decimal digits
returns c = record { near = mean_near; even = mean_even; none = λ sum. refl; down = refl; up = refl }
