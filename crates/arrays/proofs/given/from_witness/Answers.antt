-- `given::from_witness` meets its contract: the record takes at most 2,048 bytes. Assumes nothing.
use lib.ListN.{length}
use Rattle.records.specs.declared.record.Record.TheVariants as Record'
use Rattle.results.proofs.ResultLaws.{record_short}
use Rattle.arrays.proofs.given.from_witness.Goals as goal

pub short_length-requires : goal.short_length-requires
short_length-requires c = record_short (Record'.Witness c.args.table _) (length c.args.out.now) c.requires c.write_witness.ensures.0
