-- A record that was read of bytes keeps the rules of a writer, and so what a call asks of its parts; and what is taken of it. Assumes nothing.
use Rattle.records.specs.declared.record.Record.{Record}
use Rattle.records.specs.declared.record.Record.TheVariants as Record'
use Rattle.std.specs.Prelude.{Ok, Err}
use mathlib.Core.Path.{◌≡◌}
use mathlib.Core.List.{List, [], ◌∷◌}
use Prim.Native.Nat.{ℕ, ◌≤◌}
use mir.Syntax.{w8}
use mir.Val.{Fits}
use native.Mathlib.Omega.{arith}
use lib.ListN.{length, get_or}
use borrow.Author.Tests.{eqb-true, not-false}
use Rattle.types.specs.declared.table.Table.{Table}
use Rattle.types.specs.declared.gate.Gate.{Gate}
use Rattle.types.specs.declared.witness.Witness.{Witness}
use Rattle.refusal.specs.Refusal.{Rule, Answered, NoneBroken, also, and_then}
use Rattle.refusal.specs.TableRules.{table_rules}
use Rattle.refusal.proofs.RefusalLaws.{answered_none_broken}
use Rattle.refusal.proofs.TableChecked.{kept_inputs}
use Rattle.job.specs.declared.job.Job.{Job}
use Rattle.codec.proofs.StandsLaws.{AllBytes}
use Rattle.records.specs.Record.{table_in, record_bytes, read_record}
use Rattle.writers.specs.Calls.{too_short, record_rules}
use Rattle.writers.proofs.WriteBack.{write_back}
use Rattle.writers.proofs.KeptLaws.{kept_table}
use Rattle.requests.specs.Taken.{table_of, job_of}

-- the bytes s are lent as a `&[u8]`
module _ (s : List ℕ) (fits : (i : ℕ) → Fits w8 (get_or s i 0)) where
  abbrev rules : Record → List Rule
  rules x = record_rules x (too_short (length s) (record_bytes x) ∷ [])

  kept : (x : Record) → read_record s ≡ Ok x → NoneBroken (rules x)
  kept x e =
      let bytes : AllBytes s = λ i h. omega (arith, fits i) in
      (answered_none_broken (rules x) (record_bytes x) s (write_back s bytes x e (length s) (omega arith))).0

  -- the table of a record that was read keeps its rules
  pub read_kept : (x : Record) → read_record s ≡ Ok x → NoneBroken (table_rules (table_in x) [])
  read_kept x e = kept_table x (too_short (length s) (record_bytes x) ∷ []) (kept x e)

  -- so does that of kind 1 or 5
  pub table_kept : (t : Table) → read_record s ≡ Ok (Record'.Table t) → NoneBroken (table_rules t [])
  table_kept t e = read_kept (Record'.Table t) e

  -- which has at most eight inputs
  pub table_few : (t : Table) → read_record s ≡ Ok (Record'.Table t) → t.n ≤ 8
  table_few t e = kept_inputs t (table_kept t e)

  -- the table beside a gate keeps its rules too. Wrong programs cite it, that take such a record for a table
  pub gate_table_kept : (t : Table) (g : Gate) → read_record s ≡ Ok (Record'.Gate t g) → NoneBroken (table_rules t [])
  gate_table_kept t g e = read_kept (Record'.Gate t g) e

  -- the table beside a witness has at most eight inputs
  pub witness_few : (t : Table) (w : Witness) → read_record s ≡ Ok (Record'.Witness t w) → t.n ≤ 8
  witness_few t w e = kept_inputs t (read_kept (Record'.Witness t w) e)

  -- and a gate
  pub gate_few : (t : Table) (g : Gate) → read_record s ≡ Ok (Record'.Gate t g) → g.n ≤ 8
  gate_few t g e = by (kept (Record'.Gate t g) e)
    where
      by : NoneBroken (rules (Record'.Gate t g)) → g.n ≤ 8
      by (also same more) = omega (arith, eqb-true g.n t.n (not-false _ same), kept_inputs t more)

-- a call on a table is given that of a kind 1 or 5 record, one on a job that of kind 4 or 6
pub is_table : (a : Answered Record) (x : Table) → and_then a table_of ≡ Ok x → a ≡ Ok (Record'.Table x)
is_table (Ok (Record'.Table t)) x e = cc
is_table (Ok (Record'.Gate t g)) x e = cc
is_table (Ok (Record'.Witness t w)) x e = cc
is_table (Ok (Record'.Job j)) x e = cc
is_table (Err n) x e = cc

pub is_job : (a : Answered Record) (x : Job) → and_then a job_of ≡ Ok x → a ≡ Ok (Record'.Job x)
is_job (Ok (Record'.Table t)) x e = cc
is_job (Ok (Record'.Gate t g)) x e = cc
is_job (Ok (Record'.Witness t w)) x e = cc
is_job (Ok (Record'.Job j)) x e = cc
is_job (Err n) x e = cc
