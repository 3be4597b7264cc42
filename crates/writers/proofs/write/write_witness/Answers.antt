-- `writers::write::write_witness` meets its contract: the law of a call that writes, at a table with a witness. Assumes nothing.
use Rattle.records.specs.declared.record.Record.TheVariants as Record'
use mathlib.Core.List.{[]}
use native.Mathlib.Omega.{arith}
use Rattle.std.proofs.lemmas.Result.{err_from_is_err_and}
use Rattle.writers.proofs.KeptLaws.{kept_witness}
use Rattle.writers.proofs.WriteLaws.{write_refused, write_passed, size_most, write_short, body_room, write_body, witness_kind}
use Rattle.writers.proofs.write.write_witness.Goals as goal

pub returns-in_err-witness_kept : goal.returns-in_err-witness_kept
returns-in_err-witness_kept c =
    let a = c.args in
    let (e, is, same) = err_from_is_err_and c.from_residual.result c.from_residual.ensures.1 in
    rw (is, same) (write_refused (Record'.Witness a.table a.witness) a.out.now c.witness_kept.ensures c.in_err-witness_kept.was)

pub witness_length-requires : goal.witness_length-requires
witness_length-requires c =
    let a = c.args in
    let passed = write_passed (Record'.Witness a.table a.witness) a.out.now c.witness_kept.ensures c.in_ok-witness_kept.was in
    kept_witness a.table a.witness [] passed.kept

pub overflow_add-witness_length : goal.overflow_add-witness_length
overflow_add-witness_length c =
    let a = c.args in
    let passed = write_passed (Record'.Witness a.table a.witness) a.out.now c.witness_kept.ensures c.in_ok-witness_kept.was in
    omega (arith, size_most passed c.witness_length.ensures)

pub returns-then-out-witness_length : goal.returns-then-out-witness_length
returns-then-out-witness_length c =
    let a = c.args in
    let passed = write_passed (Record'.Witness a.table a.witness) a.out.now c.witness_kept.ensures c.in_ok-witness_kept.was in
    write_short passed c.witness_length.ensures c.if-out-witness_length.true

pub put_witness-requires : goal.put_witness-requires
put_witness-requires c =
    let a = c.args in
    let passed = write_passed (Record'.Witness a.table a.witness) a.out.now c.witness_kept.ensures c.in_ok-witness_kept.was in
    (kept_witness a.table a.witness [] passed.kept, body_room passed c.witness_length.ensures c.if-out-witness_length.false (witness_kind a.table a.witness) c.put_kind-at.ensures)

pub returns : goal.returns
returns c =
    let a = c.args in
    let passed = write_passed (Record'.Witness a.table a.witness) a.out.now c.witness_kept.ensures c.in_ok-witness_kept.was in
    write_body passed c.witness_length.ensures c.if-out-witness_length.false (witness_kind a.table a.witness) c.put_kind-at.ensures c.put_witness.ensures
