-- The marked cases m1 to m10 (document 01, "Edges and marked cases"), one field for each. Definitions only. Assumes nothing.
use Rattle.std.specs.Prelude.{◌≡◌, true, false, List, [], ◌∷◌, ℕ, ◌+◌, set, ℤ, pos, neg_ℤ, Ok, Err}
use Rattle.types.specs.declared.refusal.Refusal.{Refusal}
use Rattle.types.specs.Refusal.{number_of}
use Rattle.types.specs.declared.table.Table.{Table}
use Rattle.types.specs.declared.gate.Gate.{Gate}
use Rattle.table.specs.Table.{padded, whole_table}
use Rattle.cell.specs.Calls.{gate_value, check_witness, chow_parameters}
use Rattle.job.specs.declared.job.Job.{Job}
use Rattle.types.specs.declared.stage.Stage.TheVariants.{Open, Found, Binate}
use Rattle.function.specs.Witness.{one_more, zeros}
use Rattle.function.specs.Vector.{same_vector, zero_vector}
use Rattle.job.specs.Machine.{run, start_job, fresh}
use Rattle.job.specs.Sound.{is_sound}
use Rattle.job.specs.Calls.{carry_on}

-- ---- arrays by what they hold first

-- n inputs, and the bytes of the rows, every one of which is cared for
abbrev pub table : ℕ → List ℕ → Table
table n bytes = whole_table n (padded 32 0 bytes)

-- eight places of integers
abbrev pub places : List ℤ → List ℤ
places = padded 8 (pos 0)

-- n inputs, their weights, and T
abbrev pub gate : ℕ → List ℤ → ℤ → Gate
gate n ws th = record { n = n; weights = places ws; threshold = th }

-- a count of 1 for each row that is given
abbrev pub once_each : List ℕ → List ℕ
once_each [] = zeros
once_each (r ∷ rs) = one_more r (once_each rs)

-- ---- what the cases say

-- the machine finds a gate after k corrections, and v, by the machine's test of two vectors, is the weights of the n inputs and T
pub record Finds (t : Table) (k : ℕ) (ws : List ℤ) (th : ℤ) : Type 0 where
  pub stage : (run 100 (fresh t)).state.stage ≡ Found
  pub corrections : (run 100 (fresh t)).state.k ≡ k
  pub vector : same_vector (run 100 (fresh t)).state.v (record { a = places ws; b = th }) ≡ true

-- a sound open job that has made k corrections takes the budget, and refuses one more with the number
pub record TakesAtMost (j : Job) (k budget number : ℕ) : Type 0 where
  pub sound : is_sound j ≡ true
  pub stage : j.state.stage ≡ Open
  pub corrections : j.state.k ≡ k
  pub taken : carry_on j budget ≡ Ok (run budget j)
  pub above : (e : Refusal) × (number_of e ≡ number) × (carry_on j (budget + 1) ≡ Err e)

-- a job at K 950,000: since the mark, 425,712 corrections by row 0, a false row without true inputs, have brought b from −425,712 to 0
abbrev pub late_job : Job
late_job = record {
  table = table 2 (0x08 ∷ []);
  state = record {
    k = 950000;
    v = zero_vector;
    mark = 524288;
    s = record { a = zero_vector.a; b = neg_ℤ (pos 425712) };
    counts = set zeros 0 425712;
    stage = Open;
  };
}

-- the gate of source document 003
abbrev pub gate003 : Gate
gate003 = gate 6 (pos 9 ∷ pos 8 ∷ pos 5 ∷ pos 4 ∷ pos 3 ∷ pos 2 ∷ []) (pos 17)

-- the list of the document, line by line
pub record MarkedCases : Type 0 where
  pub m1 : Finds (table 0 (0x01 ∷ [])) 1 [] (neg_ℤ (pos 1))
  pub m2 : Finds (table 0 (0x00 ∷ [])) 1 [] (pos 1)
  pub m3 : Finds (table 1 (0x03 ∷ [])) 1 (pos 0 ∷ []) (neg_ℤ (pos 1))
  pub m4 : Finds (table 1 (0x02 ∷ [])) 5 (pos 2 ∷ []) (pos 1)
  pub m5 : Finds (table 2 (0x08 ∷ [])) 18 (pos 2 ∷ pos 3 ∷ []) (pos 4)
  pub m6 : fresh (table 2 (0x06 ∷ [])) ≡ start_job (table 2 (0x06 ∷ [])) (once_each (0 ∷ 1 ∷ 2 ∷ 3 ∷ [])) Binate
  pub m7 : check_witness (table 4 (0x88 ∷ 0xF8 ∷ [])) (record { counts = once_each (3 ∷ 12 ∷ 5 ∷ 10 ∷ []) }) ≡ Ok true
  pub m8 : (gate_value gate003 35 ≡ Ok true) × (gate_value gate003 38 ≡ Ok false)
  pub m9 : TakesAtMost (fresh (table 2 (0x08 ∷ []))) 0 100000 10 × TakesAtMost late_job 950000 50000 11
  pub m10 : chow_parameters (table 3 (0xEA ∷ [])) ≡ Ok (places (pos 3 ∷ pos 1 ∷ pos 1 ∷ []))
