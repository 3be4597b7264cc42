-- `carried::gate_after` meets its contract: the job after the carry-on keeps its rules, and the numbers of its gate are put into what is lent.
-- Assumes nothing.
use mathlib.Core.Path.{refl}
use lib.ListN.{length}
use Rattle.std.proofs.lemmas.Result.{err_from_is_err_and}
use Rattle.findings.specs.Findings.{gate_found}
use Rattle.findings.proofs.FindingLaws.{taken_is, carried_few, gate_back}
use Rattle.findings.proofs.carried.gate_after.Goals as goal

-- ---- a refusal of the carry-on
pub returns-in_err-carried : goal.returns-in_err-carried
returns-in_err-carried c =
    let a = c.args in
    let answer = taken_is a.job a.budget c.carry_on-carried.ensures (gate_found (length a.weights.now)) in
    let (e, is, same) = err_from_is_err_and c.from_residual.result c.from_residual.ensures.1 in
    rw (is, same, ← answer, c.in_err-carried.was) (((refl, refl), refl), refl)

-- ---- no gate
pub returns-then-not-has_gate : goal.returns-then-not-has_gate
returns-then-not-has_gate c =
    let a = c.args in
    let answer = taken_is a.job a.budget c.carry_on-carried.ensures (gate_found (length a.weights.now)) in
    rw (← answer, c.in_ok-carried.was, ← c.has_gate.ensures, c.if-not-has_gate.true) (((refl, refl), refl), refl)

-- ---- its gate
pub put_weights-requires : goal.put_weights-requires
put_weights-requires c =
    let a = c.args in
    rw c.vector_gate.ensures (carried_few a.job a.budget c.carry_on-carried.ensures c.in_ok-carried.was)

pub returns-in_err-n : goal.returns-in_err-n
returns-in_err-n c =
    let a = c.args in
    let (e, is, same) = err_from_is_err_and c.from_residual-in_err-n.result c.from_residual-in_err-n.ensures.1 in
    rw (is, same)
    (gate_back a.job a.budget c.carry_on-carried.ensures c.in_ok-carried.was (rw c.has_gate.ensures at c.if-not-has_gate.false) a.made.now a.weights.now a.threshold.now
    (rw c.vector_gate.ensures at c.in_err-n.ensures))

pub returns : goal.returns
returns c =
    let a = c.args in
    gate_back a.job a.budget c.carry_on-carried.ensures c.in_ok-carried.was (rw c.has_gate.ensures at c.if-not-has_gate.false) a.made.now a.weights.now a.threshold.now
    (rw c.vector_gate.ensures at c.in_ok-n.ensures)
