-- `handed::put_outcome` meets its contract: the length is at most 2,048, and the corrections are handed over where the bytes are.
-- Assumes nothing.
use mathlib.Core.Path.{◌∙◌}
use lib.ListN.{length}
use Rattle.std.proofs.lemmas.Result.{err_from_is_err_and}
use Rattle.outcome.specs.Outcome.{job_of, outcome_written}
use Rattle.handed.proofs.HandedLaws.{outcome_short, with_bytes}
use Rattle.handed.proofs.handed.put_outcome.Goals as goal

pub short_length-requires : goal.short_length-requires
short_length-requires c =
    let a = c.args in outcome_short (length a.out.now) (job_of a.table a.state) c.requires c.write_outcome.ensures.0

pub returns-in_err-length : goal.returns-in_err-length
returns-in_err-length c =
    let a = c.args in
    let (e, is, same) = err_from_is_err_and c.from_residual.result c.from_residual.ensures.1 in
    rw (is, same)
    (with_bytes (outcome_written (length a.out.now) (job_of a.table a.state)) a.corrections a.made.now a.out.now
    (c.in_err-length.ensures ∙ c.write_outcome.ensures.0, c.write_outcome.ensures.1))

pub returns : goal.returns
returns c =
    let a = c.args in
    with_bytes (outcome_written (length a.out.now) (job_of a.table a.state)) a.corrections a.made.now a.out.now
    (c.in_ok-length.ensures ∙ c.write_outcome.ensures.0, c.write_outcome.ensures.1)
