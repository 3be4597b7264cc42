-- `records::read::read_counts` meets its contract: the counts of a row list fit. Assumes nothing.
use borrow.Author.Rules.{rules}
use Rattle.table.proofs.WitnessLaws.{count_array}
use Rattle.records.proofs.read.read_counts.Goals as goal

pub is_sound-requires : goal.is_sound-requires
is_sound-requires c = (c.requires, count_array (search rules) (λ r. search rules))
