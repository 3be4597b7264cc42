-- `records::read::body_at` meets its contract: a table that was read has at most eight inputs. Assumes nothing.
use mathlib.Core.Path.{sym, ◌∙◌}
use Rattle.refusal.proofs.TableChecked.{kept_inputs}
use Rattle.codec.proofs.TableFieldLaws.{table_taken}
use Rattle.records.proofs.read.body_at.Goals as goal

pub rest_at-requires : goal.rest_at-requires
rest_at-requires c =
    let table = c.in_ok-table.table in
    kept_inputs table.value (table_taken _ _ _ table (sym c.read_table.ensures ∙ c.in_ok-table.was))
