-- `outcome::write_outcome` meets its contract: by the stage one of the writers, which refuses with 16 and 12 alone. Assumes nothing.
use mathlib.Core.Path.{◌∙◌, ap}
use lib.ListN.{length}
use Rattle.records.specs.declared.record.Record.TheVariants as Record'
use Rattle.types.specs.declared.gate.Gate.{Gate}
use Rattle.types.specs.declared.witness.Witness.{Witness}
use Rattle.writers.specs.Calls.{write_record}
use Rattle.writers.proofs.WriteLaws.{wrote_as}
use Rattle.outcome.specs.Outcome.{job_of}
use Rattle.outcome.proofs.OutcomeLaws.{open_written, found_written, looped_written, binate_written}
use Rattle.outcome.proofs.outcome.write_outcome.Goals as goal

pub returns-in-Open : goal.returns-in-Open
returns-in-Open c =
    let job = job_of c.args.table c.args.state in
    let old = c.args.out.now in
    wrote_as old (open_written job c.requires (length old) c.in-Open.is) c.save.ensures

pub returns-in-Found : goal.returns-in-Found
returns-in-Found c =
    let job = job_of c.args.table c.args.state in
    let old = c.args.out.now in
    let same = ap (λ (g : Gate). write_record (Record'.Gate job.table g) (length old)) c.vector_gate.ensures in
    wrote_as old (same ∙ found_written job c.requires (length old) c.in-Found.is) c.write_gate.ensures

pub returns-in-Looped : goal.returns-in-Looped
returns-in-Looped c =
    let job = job_of c.args.table c.args.state in
    let old = c.args.out.now in
    let same = ap (λ (w : Witness). write_record (Record'.Witness job.table w) (length old)) c.witness_of.ensures in
    wrote_as old (same ∙ looped_written job c.requires (length old) c.in-Looped.is) c.write_witness.ensures

pub returns-in-Binate : goal.returns-in-Binate
returns-in-Binate c =
    let job = job_of c.args.table c.args.state in
    let old = c.args.out.now in
    let same = ap (λ (w : Witness). write_record (Record'.Witness job.table w) (length old)) c.witness_of-in-Binate.ensures in
    wrote_as old (same ∙ binate_written job c.requires (length old) c.in-Binate.is) c.write_witness-in-Binate.ensures
