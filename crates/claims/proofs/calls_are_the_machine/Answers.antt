-- `claims::calls_are_the_machine`: the law of lists, where the table's bytes have the length of the code's type. Assumes nothing.
use Rattle.records.specs.declared.record.Record.TheVariants as Record'
use lib.ListN.{get_or}
use mir.Syntax.{w8}
use mir.Val.{Fits}
use Rattle.codec.proofs.TableFieldLaws.{Held}
use borrow.Author.Rules.{rules}
use Rattle.writers.proofs.ReadBack.{read_back}
use Rattle.claims.proofs.Lists.{calls_are_the_machine}
use Rattle.claims.proofs.calls_are_the_machine.Goals as goal

pub returns : goal.returns
returns c =
    let t = c.args.table in
    let held : Held t = record {
      long = search rules;
      cares = record { size = search rules; fits = λ i l. let byte : Fits w8 (get_or t.cares i 0) = search rules in byte.fits };
    } in
    calls_are_the_machine (λ j. read_back (Record'.Job j)) t held
