-- `words::from_words` meets its contract: where no rule is broken, the record is that of the table of the words. Assumes nothing.
use mathlib.Core.Path.{◌≡◌, sym, ◌∙◌, ap}
use mathlib.Core.List.{[], ◌∷◌}
use lib.ListN.{length}
use borrow.Author.Tests.{le-ltb}
use Rattle.records.specs.declared.record.Record.TheVariants as Record'
use Rattle.types.specs.declared.table.Table.{Table}
use Rattle.table.specs.Table.{whole_table}
use Rattle.refusal.specs.Refusal.{none, also}
use Rattle.refusal.specs.TableRules.{too_many_inputs}
use Rattle.refusal.proofs.RefusalLaws.{none_broken_answered}
use Rattle.writers.specs.Calls.{write_record}
use Rattle.imports.specs.Imports.{table_with, table_record}
use Rattle.imports.proofs.RowLaws.{made_written}
use Rattle.words.specs.Words.{word_row, few_words, from_words}
use Rattle.words.proofs.words.from_words.Goals as goal

pub returns : goal.returns
returns c =
    let n = c.args.inputs in
    let words = c.args.words.now in
    let room = length c.args.out.now in
    let few = c.if-inputs-gt8.false in
    let kept = also (le-ltb 8 n few) (also (sym c.if-few_words.ensures) none) in
    let made : c.whole_table.result ≡ table_with n (word_row words) = c.whole_table.ensures ∙ ap (whole_table n) c.word_bytes.ensures in
    let is : write_record (Record'.Table c.whole_table.result) room ≡ from_words n words room =
    ap (λ (t : Table). write_record (Record'.Table t) room) made
    ∙ made_written n (word_row words) few room
    ∙ sym (none_broken_answered (too_many_inputs n ∷ few_words n words ∷ []) (table_record n (word_row words) room) kept) in
    rw (← is) c.put_table_record.ensures
