-- Demand 2, of what a user meets: the report, and what decide, carry-on and the two finds of the C interface hand back. Statements alone; each
-- cites the definitions that the contracts cite. Assumes nothing.
use Rattle.types.specs.declared.refusal.Refusal.{Refusal}
use Rattle.types.specs.Refusal.{number_of}
use Rattle.records.specs.declared.record.Record.TheVariants as Record'
use Rattle.std.specs.Prelude.{◌≡◌, true, List, [], ◌++◌, ℕ, ◌+◌, ◌≤◌, ◌<◌, ℤ, length, Ok, Err}
use Rattle.types.specs.declared.table.Table.{Table}
use Rattle.types.specs.declared.gate.Gate.{Gate}
use Rattle.types.specs.declared.witness.Witness.{Witness}
use Rattle.types.specs.declared.stage.Stage.TheVariants.{Open}
use Rattle.function.specs.Gate.{Realises}
use Rattle.function.specs.Witness.{count_of, Balances}
use Rattle.cell.specs.Calls.{check_gate, check_witness}
use Rattle.job.specs.declared.job.Job.{Job}
use Rattle.job.specs.Machine.{run, fresh, decided}
use Rattle.job.specs.Calls.{carry_on}
use Rattle.codec.specs.Field.{Field}
use Rattle.codec.specs.TableField.{table_record_at}
use Rattle.records.specs.declared.record.Record.{Record}
use Rattle.records.specs.Record.{record_bytes, read_record}
use Rattle.reporting.specs.declared.tally.Tally.{Tally}
use Rattle.text.specs.Text.{decimal, spaced, line_feed}
use Rattle.notation.specs.GateText.{gate_text}
use Rattle.notation.specs.WitnessText.{witness_text}
use Rattle.reporting.specs.Lines.{open_text, record_line, refusal_line, last_line}
use Rattle.reporting.specs.Report.{input_most, no_tally, counted, report}
use Rattle.arrays.specs.Arrays.{counts_of}
use Rattle.handed.specs.Handed.{Handed}
use Rattle.found_within.specs.Found.{find_gate, find_witness}
use Rattle.threshold.specs.Interface.{decide, carried_on}
use Rattle.claims.specs.Jobs.{Taken}
use Rattle.table.specs.Table.{rows, function_of}

-- ---- a right outcome

-- a gate that has the table's value on every row that is cared for, and that the checker accepts
pub record RightGate (t : Table) (g : Gate) : Type 0 where
  pub realises : Realises g.weights g.threshold (function_of t)
  pub accepted : check_gate t g ≡ Ok true

-- a witness that balances, and that the checker accepts; then no integer weights and T of any size realise the table
pub record RightWitness (t : Table) (w : Witness) : Type 0 where
  pub balances : Balances (function_of t) (count_of w.counts)
  pub accepted : check_witness t w ≡ Ok true
  pub no_gate_lem : (ws : List ℤ) (th : ℤ) → ¬ Realises ws th (function_of t)

-- what bytes show of a table that the machine has brought to the job m, in a form of records: a right gate, a right witness, or m itself,
-- given up so far, if it is open
pub data Right (t : Table) (m : Job) (form : Record → List ℕ) : List ℕ → Type 0 where
  gate : (g : Gate) → RightGate t g → Right t m form (form (Record'.Gate t g))
  witness : (w : Witness) → RightWitness t w → Right t m form (form (Record'.Witness t w))
  given_up : m.state.stage ≡ Open → Right t m form (form (Record'.Job m))

-- ---- in a report

-- G, N or S with K, by the kind of what is shown; a table alone is never shown
abbrev pub outcome_text : ℕ → Record → List ℕ
outcome_text k (Record'.Table t) = []
outcome_text k (Record'.Gate t g) = gate_text k g
outcome_text k (Record'.Witness t w) = witness_text k t w.counts
outcome_text k (Record'.Job j) = open_text k

-- the line of a table: position, n, and the outcome with the machine's K
abbrev pub outcome_line : ℕ → Table → ℕ → Record → List ℕ
outcome_line position t k x = decimal position ++ (spaced (decimal t.n) ++ (outcome_text k x ++ line_feed))

-- a line that is right for the table
abbrev pub RightLine : ℕ → Table → List ℕ → Type 0
RightLine position t = Right t (decided t) (outcome_line position t (decided t).state.k)

-- the lines of an input from one of its bytes on, after the records of a tally: of each table that is read a right line, until a refusal or
-- the end, and the last line, with the numbers of the machine's jobs
pub data RightLines (s : List ℕ) : (at : ℕ) → Tally → List ℕ → Type 0 where
  table : {at : ℕ} {t : Tally} {line rest : List ℕ} (f : Field Table) → table_record_at s at ≡ Ok f
      → RightLine (t.records + 1) f.value line
      → RightLines s f.next (counted (decided f.value).state.stage (decided f.value).state.k t) rest
      → RightLines s at t (line ++ rest)
  refusal : {at : ℕ} (t : Tally) (e : Refusal) → at < length s → table_record_at s at ≡ Err e
      → RightLines s at t (refusal_line (t.records + 1) (number_of e) ++ last_line t)
  last : {at : ℕ} (t : Tally) → length s ≤ at → RightLines s at t (last_line t)

-- ---- in what the C interface hands back

-- of a call that brought the table's machine from one job to the next: the bytes of a right record, and what K grew by
pub record RightHanded (t : Table) (before next : Job) (h : Handed (List ℕ)) : Type 0 where
  pub bytes : Right t next record_bytes h.value
  pub made : h.made + before.state.k ≡ next.state.k

-- of a call that found a gate, or the counts of a witness, for the table of a job: they are right for it, and the corrections made are what K
-- grew by
pub record RightFound (j next : Job) (A : Type 0) (right : A → Type 0) (h : Handed A) : Type 0 where
  pub found : right h.value
  pub made : h.made + j.state.k ≡ next.state.k

-- the counts of a right witness, of the rows of its table
abbrev pub RightCounts : Table → List ℕ → Type 0
RightCounts t counts = (w : Witness) × (counts ≡ counts_of t w) × RightWitness t w

-- the job that a record's bytes begin with: the fresh job of a table, or a job that was saved
pub data Begins (s : List ℕ) : Job → Type 0 where
  of_table_lem : (t : Table) → read_record s ≡ Ok (Record'.Table t) → Begins s (fresh t)
  of_job_lem : (j : Job) → read_record s ≡ Ok (Record'.Job j) → Begins s j

-- one of the two finds by a budget answers, in an array of n weights or of a count for each row; or the job that it comes to is open
pub data FoundOrOpen (s : List ℕ) (budget : ℕ) (next : Job) : Type 0 where
  gate_found_lem : (h : Handed Gate) → find_gate s budget next.table.n ≡ Ok h → FoundOrOpen s budget next
  counts_found_lem : (h : Handed (List ℕ)) → find_witness s budget (rows next.table) ≡ Ok h → FoundOrOpen s budget next
  still_open : next.state.stage ≡ Open → FoundOrOpen s budget next

-- ---- the claim

-- Of any bytes: every table that no rule refuses gets a right line, and a report of the bytes is such lines. What decide hands back of them
-- is right for the table that they are, and what carry-on hands back is right for the table of the job that they are. So are the gate and the
-- counts that are found of either, whether every row is cared for or not; and they are found wherever a carry-on by the budget ends the job
pub record DecidedIsRight (s : List ℕ) : Type 0 where
  pub line : (t : Table) → Taken t → (position : ℕ) → RightLine position t (record_line position (decided t))
  pub lines : length s ≤ input_most → RightLines s 0 no_tally (report s)
  pub decides : (room : ℕ) (h : Handed (List ℕ)) → decide s room ≡ Ok h → (t : Table) × (read_record s ≡ Ok (Record'.Table t)) × RightHanded t (fresh t) (decided t) h
  pub carries_on : (budget room : ℕ) (h : Handed (List ℕ)) → carried_on s budget room ≡ Ok h
      → (j : Job) × (read_record s ≡ Ok (Record'.Job j)) × RightHanded j.table j (run budget j) h
  pub finds_gate : (budget room : ℕ) (h : Handed Gate) → find_gate s budget room ≡ Ok h
      → (j : Job) × Begins s j × RightFound j (run budget j) Gate (RightGate j.table) h
  pub finds_witness : (budget room : ℕ) (h : Handed (List ℕ)) → find_witness s budget room ≡ Ok h
      → (j : Job) × Begins s j × RightFound j (run budget j) (List ℕ) (RightCounts j.table) h
  pub found_or_open : (j next : Job) (budget : ℕ) → Begins s j → carry_on j budget ≡ Ok next → FoundOrOpen s budget next
