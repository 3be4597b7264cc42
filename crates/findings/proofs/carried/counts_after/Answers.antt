-- `carried::counts_after` meets its contract: the job after the carry-on keeps its rules, and the counts of its witness are put into what is lent.
-- Assumes nothing.
use mathlib.Core.Path.{refl}
use lib.ListN.{length}
use Rattle.std.proofs.lemmas.Result.{err_from_is_err_and}
use Rattle.findings.specs.Findings.{counts_found}
use Rattle.findings.proofs.FindingLaws.{taken_is, carried_few, counts_back}
use Rattle.findings.proofs.carried.counts_after.Goals as goal

-- ---- a refusal of the carry-on
pub returns-in_err-carried : goal.returns-in_err-carried
returns-in_err-carried c =
    let a = c.args in
    let answer = taken_is a.job a.budget c.carry_on-carried.ensures (counts_found (length a.counts.now)) in
    let (e, is, same) = err_from_is_err_and c.from_residual.result c.from_residual.ensures.1 in
    rw (is, same, ← answer, c.in_err-carried.was) ((refl, refl), refl)

-- ---- no witness
pub returns-then-not-has_witness : goal.returns-then-not-has_witness
returns-then-not-has_witness c =
    let a = c.args in
    let answer = taken_is a.job a.budget c.carry_on-carried.ensures (counts_found (length a.counts.now)) in
    rw (← answer, c.in_ok-carried.was, ← c.has_witness.ensures, c.if-not-has_witness.true) ((refl, refl), refl)

-- ---- its witness
pub put_counts-requires : goal.put_counts-requires
put_counts-requires c =
    let a = c.args in
    carried_few a.job a.budget c.carry_on-carried.ensures c.in_ok-carried.was

pub returns-in_err-rows : goal.returns-in_err-rows
returns-in_err-rows c =
    let a = c.args in
    let (e, is, same) = err_from_is_err_and c.from_residual-in_err-rows.result c.from_residual-in_err-rows.ensures.1 in
    rw (is, same)
    (counts_back a.job a.budget c.carry_on-carried.ensures c.in_ok-carried.was (rw c.has_witness.ensures at c.if-not-has_witness.false) a.made.now a.counts.now
    (rw c.witness_of.ensures at c.in_err-rows.ensures))

pub returns : goal.returns
returns c =
    let a = c.args in
    counts_back a.job a.budget c.carry_on-carried.ensures c.in_ok-carried.was (rw c.has_witness.ensures at c.if-not-has_witness.false) a.made.now a.counts.now
    (rw c.witness_of.ensures at c.in_ok-rows.ensures)
