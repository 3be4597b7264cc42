-- `words::from_cares` meets its contract: where no rule is broken, the record is that of the table of the words. Assumes nothing.
use mathlib.Core.Path.{◌≡◌, sym, ◌∙◌, ap₂}
use mathlib.Core.List.{List, [], ◌∷◌}
use Prim.Native.Nat.{ℕ}
use lib.ListN.{length}
use borrow.Author.Tests.{le-ltb}
use Rattle.records.specs.declared.record.Record.TheVariants as Record'
use Rattle.refusal.specs.Refusal.{none, also}
use Rattle.refusal.specs.TableRules.{too_many_inputs}
use Rattle.refusal.proofs.RefusalLaws.{none_broken_answered}
use Rattle.codec.specs.TableField.{table_of}
use Rattle.writers.specs.Calls.{write_record}
use Rattle.imports.specs.Imports.{cares_record}
use Rattle.imports.proofs.RowLaws.{cares_written}
use Rattle.words.specs.Words.{word_row, few_words, from_cares}
use Rattle.words.proofs.words.from_cares.Goals as goal

pub returns : goal.returns
returns c =
    let n = c.args.inputs in
    let words = c.args.words.now in
    let cares = c.args.cares.now in
    let room = length c.args.out.now in
    let few = c.if-inputs-gt8.false in
    let kept = also (le-ltb 8 n few) (also (sym c.if-few_words.ensures) (also (sym c.if-few_words-2.ensures) none)) in
    let is : write_record (Record'.Table (table_of n c.word_bytes-bytes.result c.word_bytes-cares.result)) room ≡ from_cares n words cares room =
    ap₂ (λ (bits cares : List ℕ). write_record (Record'.Table (table_of n bits cares)) room) c.word_bytes-bytes.ensures c.word_bytes-cares.ensures
    ∙ cares_written n (word_row words) few (word_row cares) room
    ∙ sym (none_broken_answered (too_many_inputs n ∷ few_words n words ∷ few_words n cares ∷ []) (cares_record n (word_row words) (word_row cares) room) kept) in
    rw (← is) c.put_table_record.ensures
