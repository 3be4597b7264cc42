-- `claims::heights_by_the_page`: the laws of heights. Assumes nothing.
use Rattle.claims.proofs.Heights.{entry, true_rows_lem, false_rows, bits}
use Rattle.claims.proofs.heights_by_the_page.Goals as goal

pub returns : goal.returns
returns c = record { entries = entry; true_rows_lem = true_rows_lem; false_rows = false_rows; bits = bits }
