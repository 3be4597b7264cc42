-- `made::put_table_record` meets its contract: the record takes at most 2,048 bytes. Assumes nothing.
use Rattle.records.specs.declared.record.Record.TheVariants as Record'
use lib.ListN.{length}
use Rattle.results.proofs.ResultLaws.{record_short}
use Rattle.imports.proofs.made.put_table_record.Goals as goal

pub short_length-requires : goal.short_length-requires
short_length-requires c = record_short (Record'.Table c.args.table) (length c.args.out.now) c.requires c.write_table.ensures.0
