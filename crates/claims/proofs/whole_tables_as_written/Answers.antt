-- `claims::whole_tables_as_written`: the laws of the definitions over a function, at a table with every row cared for. Assumes nothing.
use mathlib.Core.Path.{◌≡◌, sym, ◌∙◌, ap}
use mathlib.Core.Bool.{Bool, true, ◌&&◌}
use Prim.Native.Nat.{◌+◌, ◌^◌}
use native.Mathlib.Omega.{arith}
use lib.Pow.{pow_pos}
use Rattle.numbers.proofs.TestLaws.{no_true}
use Rattle.table.proofs.CareLaws.{whole_at}
use Rattle.table.proofs.OnTables.{table_turns, table_fails}
use Rattle.job.specs.Machine.{fresh}
use Rattle.claims.proofs.FreshJobs.{unate_open}
use Rattle.claims.proofs.whole_tables_as_written.Goals as goal

-- a row that is cared for is asked
asked : {a b : Bool} → a ≡ true → (a && b) ≡ b
asked {b = b} e = ap (λ (x : Bool). x && b) e

pub returns : goal.returns
unfolding fresh
returns c =
    λ t whole. record {
      realises = λ ws th. (λ g r h. g r h (whole_at t whole r h), λ g r h care. g r h);
      balances = λ count. (
        λ b. (b.total, b.above, b.inputs),
        λ b. record { total = b.0; above = b.1; inputs = b.2; cared = λ r h e. absurd (no_true (sym e ∙ whole_at t whole r h)) },
      );
      turns = λ to place r h k. table_turns t to place r ∙ asked (whole_at t whole r h) ∙ asked (whole_at t whole (r + 2 ^ place) k);
      fresh_unate = λ e i. record { table = t; state = unate_open t e 0 (omega (arith, pow_pos t.n)) (whole_at t whole 0 (omega (arith, pow_pos t.n))) i };
      fails_as = λ v r h. table_fails t v r ∙ asked (whole_at t whole r h);
    }
