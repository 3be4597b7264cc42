-- `writers::write::write_gate` meets its contract: the law of a call that writes, at a table with a gate. Assumes nothing.
use Rattle.records.specs.declared.record.Record.TheVariants as Record'
use mathlib.Core.List.{[]}
use native.Mathlib.Omega.{arith}
use Rattle.std.proofs.lemmas.Result.{err_from_is_err_and}
use Rattle.writers.proofs.KeptLaws.{kept_gate}
use Rattle.writers.proofs.WriteLaws.{write_refused, write_passed, size_most, write_short, body_room, write_body, gate_kind}
use Rattle.writers.proofs.write.write_gate.Goals as goal

pub returns-in_err-gate_kept : goal.returns-in_err-gate_kept
returns-in_err-gate_kept c =
    let a = c.args in
    let (e, is, same) = err_from_is_err_and c.from_residual.result c.from_residual.ensures.1 in
    rw (is, same) (write_refused (Record'.Gate a.table a.gate) a.out.now c.gate_kept.ensures c.in_err-gate_kept.was)

pub gate_length-requires : goal.gate_length-requires
gate_length-requires c =
    let a = c.args in
    let passed = write_passed (Record'.Gate a.table a.gate) a.out.now c.gate_kept.ensures c.in_ok-gate_kept.was in
    kept_gate a.table a.gate [] passed.kept

pub overflow_add-gate_length : goal.overflow_add-gate_length
overflow_add-gate_length c =
    let a = c.args in
    let passed = write_passed (Record'.Gate a.table a.gate) a.out.now c.gate_kept.ensures c.in_ok-gate_kept.was in
    omega (arith, size_most passed c.gate_length.ensures)

pub returns-then-out-gate_length : goal.returns-then-out-gate_length
returns-then-out-gate_length c =
    let a = c.args in
    let passed = write_passed (Record'.Gate a.table a.gate) a.out.now c.gate_kept.ensures c.in_ok-gate_kept.was in
    write_short passed c.gate_length.ensures c.if-out-gate_length.true

pub put_gate-requires : goal.put_gate-requires
put_gate-requires c =
    let a = c.args in
    let passed = write_passed (Record'.Gate a.table a.gate) a.out.now c.gate_kept.ensures c.in_ok-gate_kept.was in
    (kept_gate a.table a.gate [] passed.kept, body_room passed c.gate_length.ensures c.if-out-gate_length.false (gate_kind a.table a.gate) c.put_kind-at.ensures)

pub returns : goal.returns
returns c =
    let a = c.args in
    let passed = write_passed (Record'.Gate a.table a.gate) a.out.now c.gate_kept.ensures c.in_ok-gate_kept.was in
    write_body passed c.gate_length.ensures c.if-out-gate_length.false (gate_kind a.table a.gate) c.put_kind-at.ensures c.put_gate.ensures
