-- `claims::records_are_written`: the law of rules, and the seams of what is written. Assumes nothing.
use mathlib.Core.Path.{◌∙◌, ap}
use mathlib.Core.List.{List, [], ◌∷◌}
use Prim.Native.Nat.{ℕ}
use lib.ListN.{length, take, drop}
use Rattle.refusal.specs.Refusal.{Answered}
use Rattle.records.specs.Record.{record_bytes}
use Rattle.writers.specs.Calls.{record_rules, too_short, lent}
use Rattle.claims.proofs.Rules.{by_rules}
use Rattle.claims.proofs.Records.{lent_start, lent_past, lent_length}
use Rattle.claims.proofs.records_are_written.Goals as goal

pub returns : goal.returns
returns c =
    record {
      numbers = λ x room. by_rules (record_rules x (too_short room (record_bytes x) ∷ [])) (record_bytes x);
      record_stands = λ x out bytes e. ap (λ (a : Answered (List ℕ)). take (length bytes) (lent out a)) e ∙ lent_start out bytes;
      past_kept = λ x out bytes e. ap (λ (a : Answered (List ℕ)). drop (length bytes) (lent out a)) e ∙ lent_past out bytes;
      length_kept = lent_length;
      refused_kept = λ x out n e. ap (lent out) e;
    }
