-- `page::page` meets its contract: antt computes the true inputs of each row, and they are the entries. Assumes nothing.
use mathlib.Core.Path.{refl}
use Rattle.numbers.specs.Sum.{sum_below}
use Rattle.numbers.specs.Tabulate.{tabulate}
use Rattle.heights.specs.Page.{true_inputs, manual_page}
use Rattle.heights.proofs.page.page.Goals as goal

pub returns : goal.returns
unfolding sum_below tabulate true_inputs manual_page
returns c = refl
