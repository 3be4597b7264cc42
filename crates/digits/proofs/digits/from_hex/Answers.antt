-- `digits::from_hex` meets its contract: where no rule is broken, the record is that of the table of the digits. Assumes nothing.
use mathlib.Core.Path.{◌≡◌, sym, ◌∙◌, ap}
use mathlib.Core.Bool.{not}
use mathlib.Core.List.{[], ◌∷◌}
use native.Mathlib.Omega.{arith}
use lib.ListN.{length}
use borrow.Author.Tests.{le-ltb, eq-eqb}
use Rattle.records.specs.declared.record.Record.TheVariants as Record'
use Rattle.types.specs.declared.table.Table.{Table}
use Rattle.table.specs.Table.{whole_table}
use Rattle.refusal.specs.Refusal.{none, also}
use Rattle.refusal.specs.TableRules.{too_many_inputs}
use Rattle.refusal.proofs.RefusalLaws.{none_broken_answered}
use Rattle.writers.specs.Calls.{write_record}
use Rattle.imports.specs.Imports.{table_with, table_record}
use Rattle.imports.proofs.RowLaws.{made_written}
use Rattle.digits.specs.Digits.{digit_count, digit_row, other_digits, no_digit, from_hex}
use Rattle.digits.proofs.digits.from_hex.Goals as goal

pub returns : goal.returns
returns c =
    let n = c.args.inputs in
    let digits = c.args.digits.now in
    let room = length c.args.out.now in
    let few = c.if-inputs-gt8.false in
    let right : length digits ≡ digit_count n = omega (arith, c.if-digits-row_count.false, c.row_count.ensures) in
    let all = ap not (sym c.if-not-all_digits.ensures) in
    let kept = also (le-ltb 8 n few) (also (ap not (eq-eqb (length digits) (digit_count n) right)) (also all none)) in
    let made : c.whole_table.result ≡ table_with n (digit_row digits) = c.whole_table.ensures ∙ ap (whole_table n) c.digit_bytes.ensures in
    let is : write_record (Record'.Table c.whole_table.result) room ≡ from_hex n digits room =
    ap (λ (t : Table). write_record (Record'.Table t) room) made
    ∙ made_written n (digit_row digits) few room
    ∙ sym (none_broken_answered (too_many_inputs n ∷ other_digits n digits ∷ no_digit digits ∷ []) (table_record n (digit_row digits) room) kept) in
    rw (← is) c.put_table_record.ensures
