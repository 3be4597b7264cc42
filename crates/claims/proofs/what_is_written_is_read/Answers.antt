-- `claims::what_is_written_is_read`: the law of records, where the arrays have the lengths of the code's types. Assumes nothing.
use Rattle.records.specs.declared.record.Record.TheVariants as Record'
use mathlib.Core.Path.{◌≡◌}
use lib.ListN.{length, get_or}
use mir.Syntax.{w8}
use mir.Val.{Fits}
use Rattle.codec.proofs.TableFieldLaws.{Held}
use borrow.Author.Rules.{rules}
use Rattle.writers.proofs.ReadBack.{read_back}
use Rattle.claims.proofs.what_is_written_is_read.Goals as goal

pub returns : goal.returns
returns c =
    let a = c.args in
    let held : Held a.table = record {
      long = search rules;
      cares = record { size = search rules; fits = λ i l. let byte : Fits w8 (get_or a.table.cares i 0) = search rules in byte.fits };
    } in
    let weights : length a.gate.weights ≡ 8 = search rules in
    let counts : length a.witness.counts ≡ 256 = search rules in
    let of_job_lem : Held a.job.table = record {
      long = search rules;
      cares = record { size = search rules; fits = λ i l. let byte : Fits w8 (get_or a.job.table.cares i 0) = search rules in byte.fits };
    } in (
      read_back (Record'.Table a.table) held,
      read_back (Record'.Gate a.table a.gate) (held, weights),
      read_back (Record'.Witness a.table a.witness) (held, counts),
      read_back (Record'.Job a.job) of_job_lem,
    )
