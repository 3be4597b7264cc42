-- What is decided is right: a job that keeps its rules is sound, so what it has come to is right by its stage, in whatever form it is
-- shown. The report's lines go by induction over its records. Assumes nothing.
use Rattle.records.specs.declared.record.Record.TheVariants as Record'
use Rattle.std.specs.Prelude.{Ok, Err}
use Rattle.types.specs.declared.refusal.Refusal.TheVariants as Refusal'
use mathlib.Core.Path.{◌≡◌, refl, sym, ◌∙◌, ap, subst}
use mathlib.Core.Bool.{Bool, true, false, not, cond}
use mathlib.Core.Logic.{inl, inr}
use mathlib.Core.List.{List, [], ◌∷◌, ◌++◌}
use Prim.Native.Nat.{ℕ, zero, suc, ◌+◌, ◌-◌, ◌≤◌, ◌<◌}
use native.Mathlib.Omega.{arith}
use lib.Dec.{ltb}
use lib.ListN.{length, take, length-take}
use native.Mathlib.Nat.{min-le_left}
use borrow.Author.Tests.{le-ltb, ltb-true, ltb-false}
use Rattle.types.specs.declared.table.Table.{Table}
use Rattle.types.specs.declared.stage.Stage.{Stage}
use Rattle.types.specs.declared.stage.Stage.TheVariants.{Open, Found, Looped, Binate}
use Rattle.numbers.proofs.TestLaws.{no_true}
use Rattle.types.specs.declared.gate.Gate.{Gate}
use Rattle.table.specs.Table.{rows}
use Rattle.refusal.specs.Refusal.{Rule, Answered, NoneBroken, also, and_then}
use Rattle.refusal.specs.TableRules.{table_rules}
use Rattle.refusal.proofs.RefusalLaws.{answered_none_broken, rule_kept}
use Rattle.refusal.proofs.TableChecked.{kept_inputs, table_kept}
use Rattle.job.specs.declared.job.Job.{Job}
use Rattle.job.specs.Machine.{run, fresh, decided}
use Rattle.job.specs.Sound.{Sound}
use Rattle.job.specs.Calls.{call_budget, job_rules, carry_on, gate_of, witness_of}
use Rattle.job.proofs.MachineLaws.{fresh_table, run_table}
use Rattle.job.proofs.Soundness.{run_grows}
use Rattle.job.proofs.JobChecked.{kept_sound}
use Rattle.codec.specs.Field.{Reading}
use Rattle.codec.specs.TableField.{table_record_at}
use Rattle.codec.proofs.TableFieldLaws.{record_read}
use Rattle.codec.proofs.StandsLaws.{AllBytes}
use Rattle.records.specs.declared.record.Record.{Record}
use Rattle.records.specs.Record.{record_bytes, read_record}
use Rattle.writers.specs.Calls.{record_rules, too_short, fitted}
use Rattle.writers.proofs.WriteBack.{write_back}
use Rattle.reporting.specs.declared.tally.Tally.{Tally}
use Rattle.text.specs.Text.{decimal, spaced, line_feed}
use Rattle.reporting.specs.Lines.{verdict_text, record_line, last_line, too_long_line}
use Rattle.reporting.specs.Report.{input_most, no_tally, counted, record_then, report_from, report}
use Rattle.job.proofs.DecidedLaws.{decided_table}
use Rattle.theory.proofs.Answers.{EndedWithout, found_realises, found_accepted, ended_balances, ended_accepted, ended_excludes}
use Rattle.outcome.specs.Outcome.{outcome_in, outcome, uncarried, outcome_written}
use Rattle.handed.specs.Handed.{Handed, with_made, taken_with, taken_after, handed_back}
use Rattle.arrays.specs.Arrays.{weights_of, fitted_gate, counts_of}
use Rattle.findings.specs.Findings.{has_gate, has_witness, not_found, gate_found, counts_found}
use Rattle.found_within.specs.Found.{job_in, job_for, find_gate, find_witness}
use Rattle.threshold.specs.Interface.{decide, carried_on}
use Rattle.requests.specs.Taken.{table_read, job_read}
use Rattle.requests.proofs.TakenLaws.{is_table, is_job}
use Rattle.handed.proofs.DecidedLaws.{decided_kept, carried_kept}
use Rattle.claims.specs.Jobs.{Taken}
use Rattle.claims.specs.Decided.{RightGate, RightWitness, RightFound, RightCounts, Begins, of_table_lem, of_job_lem, FoundOrOpen, gate_found_lem, counts_found_lem, still_open, Right, gate, witness, given_up, outcome_text, outcome_line, RightLine, RightLines, table, refusal, last, RightHanded, DecidedIsRight}
use Rattle.claims.proofs.CarryOn.{carried_on_lem}
use Rattle.claims.proofs.Rules.{rules_answered}

-- ---- an outcome

module _ (m : Job) (kept : NoneBroken (job_rules m [])) where
  sound : Sound m
  sound = kept_sound m kept

  taken : NoneBroken (table_rules m.table [])
  taken = table_kept m.table kept

  right_witness : EndedWithout m → RightWitness m.table (witness_of m)
  right_witness e =
      let few = kept_inputs m.table taken in
      record { balances = ended_balances m few sound e; accepted = ended_accepted m sound taken e; no_gate_lem = ended_excludes m few sound e }

  -- what a job has come to is right, by its stage
  right_in : (form : Record → List ℕ) (x : Stage) → m.state.stage ≡ x → Right m.table m form (form (outcome_in x m))
  right_in form Open e = given_up e
  right_in form Found e = gate (gate_of m) (record { realises = found_realises m sound e; accepted = found_accepted m sound taken e })
  right_in form Looped e = witness (witness_of m) (right_witness (inl e))
  right_in form Binate e = witness (witness_of m) (right_witness (inr e))

  -- for the table that it is a job of
  right_outcome : (t : Table) (form : Record → List ℕ) → m.table ≡ t → Right t m form (form (outcome m))
  right_outcome t form e = subst (λ (u : Table). Right u m form (form (outcome m))) e (right_in form m.state.stage refl)

-- ---- a line

-- a record's line shows what its job has come to
text_in : (x : Stage) (m : Job) → verdict_text x m ≡ outcome_text m.state.k (outcome_in x m)
text_in Open m = refl
text_in Found m = refl
text_in Looped m = refl
text_in Binate m = refl

line_is : (position : ℕ) (m : Job) → record_line position m ≡ outcome_line position m.table m.state.k (outcome m)
unfolding record_line
line_is position m = ap (λ (text : List ℕ). decimal position ++ (spaced (decimal m.table.n) ++ (text ++ line_feed))) (text_in m.state.stage m)

-- so the line of a table is right
right_line : (t : Table) → Taken t → (position : ℕ) → RightLine position t (record_line position (decided t))
right_line t kept position =
    let m = decided t in
    let same : record_line position (decided t) ≡ outcome_line position t m.state.k (outcome m) =
    line_is position m ∙ ap (λ (u : Table). outcome_line position u m.state.k (outcome m)) (decided_table t) in
    subst (RightLine position t) (sym same) (right_outcome m (decided_kept t kept) t (outcome_line position t m.state.k) (decided_table t))

-- ---- a report

module _ (s : List ℕ) where
  -- the record at a position, where the rest of the report is right
  right_record : (rest : ℕ → Tally → List ℕ) (at : ℕ) (t : Tally) (r : Reading Table) → table_record_at s at ≡ r → at < length s
      → ((next : ℕ) (u : Tally) → at < next → RightLines s next u (rest next u)) → RightLines s at t (record_then rest t r)
  right_record rest at t (Err n) e here later = refusal t n here e
  right_record rest at t (Ok f) e here later =
      let j = decided f.value in
      let u = counted j.state.stage j.state.k t in
      table f e (right_line f.value (record_read s at f e).taken (t.records + 1))
      (later f.next u (record_read s at f e).forward)

  -- or the last line, at the end
  picked : (b : Bool) {at : ℕ} (t : Tally) {lines : List ℕ} → ltb at (length s) ≡ b → (at < length s → RightLines s at t lines)
      → RightLines s at t (cond b lines (last_line t))
  picked true {at = at} t e lines = lines (ltb-true at (length s) e)
  picked false {at = at} t e lines = last t (ltb-false at (length s) e)

  -- as many records as there are bytes left reach the end
  right_from : (left at : ℕ) (t : Tally) → length s ≤ left + at → RightLines s at t (report_from left s at t)
  unfolding report_from
  right_from zero at t h = last {at = at} t (omega arith)
  right_from (suc left) at t h =
      picked (ltb at (length s)) t refl (λ here. right_record (report_from left s) at t (table_record_at s at) refl here (λ next u forward. right_from left next u (omega arith)))

  -- the report of an input that is not too long
  right_lines : length s ≤ input_most → RightLines s 0 no_tally (report s)
  unfolding report
  right_lines h =
      subst (λ (b : Bool). RightLines s 0 no_tally (cond b too_long_line (report_from (length s) s 0 no_tally))) (sym (le-ltb input_most (length s) h)) (right_from (length s) 0 no_tally (omega arith))

-- ---- the records that the C interface hands back

-- an answer came of an answer
and_then_lem : {A B : Type 0} (a : Answered A) (later : A → Answered B) (b : B) → and_then a later ≡ Ok b → (x : A) × (a ≡ Ok x) × (later x ≡ Ok b)
and_then_lem (Ok x) later b e = (x, refl, e)
and_then_lem (Err n) later b e = cc

-- a table that was read keeps its format, since a record that was read keeps the rules of a writer
read_taken : (s : List ℕ) → AllBytes s → (t : Table) → read_record s ≡ Ok (Record'.Table t) → Taken t
read_taken s bytes t e =
    let x = Record'.Table t in
    table_kept t (answered_none_broken (record_rules x (too_short (length s) (record_bytes x) ∷ [])) (record_bytes x) s (write_back s bytes x e (length s) (omega arith))).0

-- what is taken of a run, with what K grew by
taken_with_lem : {A : Type 0} (takes : Job → Answered A) (j : Job) (b : ℕ) (h : Handed A) → taken_with takes j (run b j) ≡ Ok h
    → (takes (run b j) ≡ Ok h.value) × (h.made + j.state.k ≡ (run b j).state.k)
taken_with_lem {A} takes j b h e =
    let m = run b j in
    let (x, ex, eh) = and_then_lem (takes m) _ h e in
    let same : record { value = x; made = m.state.k - j.state.k } ≡ h = cc in
    (ex ∙ ap (λ (g : Handed A). Ok g.value) same, ap (λ (g : Handed A). g.made + j.state.k) (sym same) ∙ omega (arith, run_grows j b))

-- what is handed back of a run is right
right_handed : (t : Table) (j : Job) (b room : ℕ) (h : Handed (List ℕ)) → j.table ≡ t → NoneBroken (job_rules (run b j) [])
    → handed_back room j (run b j) ≡ Ok h → RightHanded t j (run b j) h
right_handed t j b room h e kept handed =
    let m = run b j in
    let (took, made) = taken_with_lem (outcome_written room) j b h handed in
    let (carried, fits) = rules_answered (uncarried m.state.stage m.table ∷ []) (fitted room (record_bytes (outcome m))) h.value took in
    let written = (answered_none_broken (too_short room (record_bytes (outcome m)) ∷ []) (record_bytes (outcome m)) h.value fits).1 in
    record { bytes = subst (Right t m record_bytes) written (right_outcome m kept t record_bytes (run_table b j ∙ e)); made = made }

-- ---- the gates and counts that are found

-- a job that has a gate has found it
has_gate_lem : (x : Stage) → not (has_gate x) ≡ false → x ≡ Found
has_gate_lem Open e = absurd (no_true (sym e))
has_gate_lem Found e = refl
has_gate_lem Looped e = absurd (no_true (sym e))
has_gate_lem Binate e = absurd (no_true (sym e))

has_witness_lem : (m : Job) (x : Stage) → m.state.stage ≡ x → not (has_witness x) ≡ false → EndedWithout m
has_witness_lem m Open s e = absurd (no_true (sym e))
has_witness_lem m Found s e = absurd (no_true (sym e))
has_witness_lem m Looped s e = inl s
has_witness_lem m Binate s e = inr s

first_kept : {r : Rule} → NoneBroken (r ∷ []) → r.broken ≡ false
first_kept (also kept rest) = kept

module _ (j : Job) (b : ℕ) (kept : NoneBroken (job_rules (run b j) [])) where
  abbrev m : Job
  m = run b j

  right_gate_found : (room : ℕ) (h : Handed Gate) → taken_with (gate_found room) j m ≡ Ok h → RightFound j m Gate (RightGate j.table) h
  right_gate_found room h e =
      let (took, made) = taken_with_lem (gate_found room) j b h e in
      let (has, fits) = rules_answered (not_found (has_gate m.state.stage) ∷ []) (fitted_gate room (gate_of m)) h.value took in
      let same = (answered_none_broken (too_short room (weights_of (gate_of m)) ∷ []) (gate_of m) h.value fits).1 in
      let found = has_gate_lem m.state.stage (first_kept has) in
      let right : RightGate m.table (gate_of m) = record {
        realises = found_realises m (sound m kept) found;
        accepted = found_accepted m (sound m kept) (taken m kept) found;
      } in
      record { found = subst (λ (t : Table). RightGate t h.value) (run_table b j) (subst (RightGate m.table) same right); made = made }

  right_counts_found : (room : ℕ) (h : Handed (List ℕ)) → taken_with (counts_found room) j m ≡ Ok h → RightFound j m (List ℕ) (RightCounts j.table) h
  right_counts_found room h e =
      let (took, made) = taken_with_lem (counts_found room) j b h e in
      let counts = counts_of m.table (witness_of m) in
      let (has, fits) = rules_answered (not_found (has_witness m.state.stage) ∷ []) (fitted room counts) h.value took in
      let same = (answered_none_broken (too_short room counts ∷ []) counts h.value fits).1 in
      let right : RightCounts m.table h.value = (witness_of m, sym same, right_witness m kept (has_witness_lem m m.state.stage refl (first_kept has))) in
      record { found = subst (λ (t : Table). RightCounts t h.value) (run_table b j) right; made = made }

-- the job of a record is that of what was read
begins : (s : List ℕ) (r : Answered Record) → read_record s ≡ r → (j : Job) → and_then r job_in ≡ Ok j → Begins s j
begins s (Ok (Record'.Table t)) e j k = let same : fresh t ≡ j = cc in subst (Begins s) same (of_table_lem t e)
begins s (Ok (Record'.Gate t g)) e j k = cc
begins s (Ok (Record'.Witness t w)) e j k = cc
begins s (Ok (Record'.Job i)) e j k = let same : i ≡ j = cc in subst (Begins s) same (of_job_lem i e)
begins s (Err n) e j k = cc

-- and the call is given it
begun : (s : List ℕ) {j : Job} → Begins s j → job_for s ≡ Ok j
begun s (of_table_lem t e) = ap (λ (r : Answered Record). and_then r job_in) e
begun s (of_job_lem j e) = ap (λ (r : Answered Record). and_then r job_in) e

-- ---- one of the finds answers

-- the first of some numbers go into an array of as many
take_fits : {A : Type 0} (n : ℕ) (xs : List A) → ltb n (length (take n xs)) ≡ false
take_fits n xs = le-ltb n (length (take n xs)) (omega (arith, length-take n xs, min-le_left n (length xs)))

-- an ended job has its gate, or its counts
gate_there : (m : Job) → m.state.stage ≡ Found → gate_found m.table.n m ≡ Ok (gate_of m)
gate_there m e = simp e (sym (rule_kept Refusal'.Room [] (Ok (gate_of m)) (take_fits m.table.n (gate_of m).weights)))

counts_there : (m : Job) → EndedWithout m → counts_found (rows m.table) m ≡ Ok (counts_of m.table (witness_of m))
counts_there m (inl e) = simp e (sym (rule_kept Refusal'.Room [] (Ok (counts_of m.table (witness_of m))) (take_fits (rows m.table) (witness_of m).counts)))
counts_there m (inr e) = simp e (sym (rule_kept Refusal'.Room [] (Ok (counts_of m.table (witness_of m))) (take_fits (rows m.table) (witness_of m).counts)))

-- a job that a record begins with, and the next, after a carry-on
module _ (s : List ℕ) (j next : Job) (budget : ℕ) (from : Begins s j) (carries : carry_on j budget ≡ Ok next) where
  abbrev made : ℕ
  made = next.state.k - j.state.k

  -- what is there for a call is handed back
  handed_there : {A : Type 0} (takes : Job → Answered A) (x : A) → takes next ≡ Ok x
      → and_then (job_for s) (taken_after budget takes) ≡ Ok (record { value = x; made = made })
  handed_there {A} takes x there =
      ap (λ (a : Answered Job). and_then a (taken_after budget takes)) (begun s from)
      ∙ ap (λ (a : Answered Job). and_then a (taken_with takes j)) carries
      ∙ ap (λ (a : Answered A). with_made made a) there

  found_in : (x : Stage) → next.state.stage ≡ x → FoundOrOpen s budget next
  found_in Open e = still_open e
  found_in Found e = gate_found_lem _ (handed_there (gate_found next.table.n) (gate_of next) (gate_there next e))
  found_in Looped e = counts_found_lem _ (handed_there (counts_found (rows next.table)) (counts_of next.table (witness_of next)) (counts_there next (inl e)))
  found_in Binate e = counts_found_lem _ (handed_there (counts_found (rows next.table)) (counts_of next.table (witness_of next)) (counts_there next (inr e)))

module _ (s : List ℕ) (all : AllBytes s) where
  right_decide : (room : ℕ) (h : Handed (List ℕ)) → decide s room ≡ Ok h
      → (t : Table) × (read_record s ≡ Ok (Record'.Table t)) × RightHanded t (fresh t) (decided t) h
  right_decide room h e =
      let (t, et, handed) = and_then_lem (table_read s) _ h e in
      let read = is_table (read_record s) t et in
      (t, read, right_handed t (fresh t) call_budget room h (fresh_table t) (decided_kept t (read_taken s all t read)) handed)

  -- of a job that is carried on
  carried_run : {A : Type 0} (takes : Job → Answered A) (j : Job) (budget : ℕ) (h : Handed A) → taken_after budget takes j ≡ Ok h
      → NoneBroken (job_rules (run budget j) []) × (taken_with takes j (run budget j) ≡ Ok h)
  carried_run takes j budget h e =
      let (next, en, handed) = and_then_lem (carry_on j budget) _ h e in
      let same = carried_on_lem j next budget en in
      (subst (λ (i : Job). NoneBroken (job_rules i [])) same (carried_kept j next budget en), ap (taken_with takes j) (sym same) ∙ handed)

  right_carry_on : (budget room : ℕ) (h : Handed (List ℕ)) → carried_on s budget room ≡ Ok h
      → (j : Job) × (read_record s ≡ Ok (Record'.Job j)) × RightHanded j.table j (run budget j) h
  unfolding carried_on
  right_carry_on budget room h e =
      let (j, ej, ec) = and_then_lem (job_read s) _ h e in
      let (kept, handed) = carried_run (outcome_written room) j budget h ec in
      (j, is_job (read_record s) j ej, right_handed j.table j budget room h refl kept handed)

  right_find_gate : (budget room : ℕ) (h : Handed Gate) → find_gate s budget room ≡ Ok h
      → (j : Job) × Begins s j × RightFound j (run budget j) Gate (RightGate j.table) h
  right_find_gate budget room h e =
      let (j, ej, after) = and_then_lem (job_for s) _ h e in
      let (kept, handed) = carried_run (gate_found room) j budget h after in
      (j, begins s (read_record s) refl j ej, right_gate_found j budget kept room h handed)

  right_find_witness : (budget room : ℕ) (h : Handed (List ℕ)) → find_witness s budget room ≡ Ok h
      → (j : Job) × Begins s j × RightFound j (run budget j) (List ℕ) (RightCounts j.table) h
  right_find_witness budget room h e =
      let (j, ej, after) = and_then_lem (job_for s) _ h e in
      let (kept, handed) = carried_run (counts_found room) j budget h after in
      (j, begins s (read_record s) refl j ej, right_counts_found j budget kept room h handed)

  -- what is decided of any bytes is right
  pub decided_is_right : DecidedIsRight s
  decided_is_right = record {
    line = right_line;
    lines = right_lines s;
    decides = right_decide;
    carries_on = right_carry_on;
    finds_gate = right_find_gate;
    finds_witness = right_find_witness;
    found_or_open = λ j next budget from carries. found_in s j next budget from carries next.state.stage refl;
  }
