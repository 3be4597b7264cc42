-- `claims::tables_as_written`: the laws of the definitions over a function, at a table. Assumes nothing.
use native.Mathlib.Nat.{one-mul}
use Rattle.function.proofs.VectorLaws.{corrected_threshold}
use Rattle.function.specs.Function.{level}
use Rattle.table.specs.Table.{value, function_of}
use Rattle.table.proofs.OnTables.{table_total, table_input_total, table_turns, table_fails, table_corrected_a}
use Rattle.table.proofs.BinateRows.{table_binate_counts}
use Rattle.state.proofs.MachineLaws.{fresh_binate}
use Rattle.job.specs.Machine.{fresh}
use Rattle.refusal.proofs.TableChecked.{kept_stray}
use Rattle.claims.proofs.FreshJobs.{free_row_false, unate_open, free_found}
use Rattle.claims.proofs.TrueInputs.{table_distance, table_gate_true}
use Rattle.claims.proofs.Traces.{traced_total, traced_a, traced_b, traced_from}
use Rattle.claims.proofs.tables_as_written.Goals as goal

pub returns : goal.returns
unfolding fresh
returns c =
    λ t. record {
      distance_as = table_distance;
      gate_true_lem = table_gate_true;
      free_false = λ kept r h free. free_row_false t (kept_stray t kept) r h free;
      realises = λ ws th. (λ g. g, λ g. g);
      balances = λ count. (
        λ b. (b.total, b.above, b.inputs, b.cared),
        λ b. record { total = b.0; above = b.1; inputs = b.2; cared = b.3 },
      );
      total = table_total t;
      input_total = table_input_total t;
      turns = table_turns t;
      fresh_unate = λ e r h care i. record { table = t; state = unate_open t e r h care i };
      fresh_free = λ free i. record { table = t; state = free_found t free i };
      fresh_binate = λ place e i. record { table = t; state = fresh_binate (function_of t) place e i };
      binate_rows = λ few place rise fall binate. table_binate_counts t place few binate rise fall;
      fails_as = table_fails t;
      corrected_a = table_corrected_a t;
      corrected_b = λ v r. corrected_threshold (value t r) (level 2 r) v;
      ranged = λ k v. (λ h. rw (one-mul k) at h, λ h. rw (one-mul k) h);
      traced = λ x. (λ h. (traced_total t x h, traced_a t x h, traced_b t x h), λ h. traced_from t x h.0 h.1 h.2);
    }
