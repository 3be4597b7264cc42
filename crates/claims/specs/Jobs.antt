-- What is claimed of jobs, in statements alone. Each cites the definitions that the contracts cite. Assumes nothing.
use Rattle.std.specs.Prelude.{◌≡◌, true, ◌↔◌, ◌≢◌, List, [], ◌∷◌, ℕ, ◌+◌, ◌*◌, ◌≤◌, ◌<◌, ℤ, length, Ok, Err}
use Rattle.types.specs.declared.table.Table.{Table}
use Rattle.function.specs.Gate.{Realises}
use Rattle.refusal.specs.Refusal.{NoneBroken}
use Rattle.cell.specs.Calls.{past_rows, check_gate, check_witness}
use Rattle.refusal.specs.TableRules.{table_rules}
use Rattle.function.specs.Failing.{fails}
use Rattle.job.specs.declared.job.Job.{Job}
use Rattle.types.specs.declared.stage.Stage.TheVariants.{Open, Found, Looped, Binate}
use Rattle.job.specs.Machine.{step, run, fresh, decided}
use Rattle.job.specs.Sound.{cap, Sound, is_sound}
use Rattle.job.specs.Calls.{call_budget, fresh_job, decided_job, job_rules, budget_range, past_cap, carry_on, carried}
use Rattle.types.specs.declared.refusal.Refusal.{Refusal}
use Rattle.types.specs.declared.gate.Gate.{Gate}
use Rattle.types.specs.declared.witness.Witness.{Witness}
use Rattle.view.specs.declared.shown.Verdict.TheVariants as Verdict'
use Rattle.view.specs.Calls.{row_fails, show_job, shown_in}
use Rattle.theory.specs.Bound.{squares, factor}
use Rattle.claims.specs.Claims.{ByRules}
use Rattle.table.specs.Table.{function_of}

-- a table that no rule of a table refuses
abbrev pub Taken : Table → Type 0
Taken t = NoneBroken (table_rules t [])

-- Demand 1: the calls on jobs give a number exactly on its condition, in their orders. In carry-on the ended answer stands before 11
pub record JobNumbersOnTheirConditions : Type 0 where
  pub fresh_job_lem : (t : Table) → ByRules (table_rules t []) (fresh t) (fresh_job t)
  pub decided : (t : Table) → ByRules (table_rules t []) (decided t) (decided_job t)
  pub carry_on_lem : (j : Job) (b : ℕ) → j.state.stage ≡ Open → ByRules (job_rules j (budget_range b ∷ past_cap j b ∷ [])) (run b j) (carry_on j b)
  pub carry_on_ended : (j : Job) (b : ℕ) → j.state.stage ≢ Open → ByRules (job_rules j (budget_range b ∷ [])) j (carry_on j b)
  pub row_fails_lem : (j : Job) (r : ℕ) → ByRules (job_rules j (past_rows j.table.n r ∷ [])) (fails (function_of j.table) j.state.v r) (row_fails j r)
  pub show_job_lem : (j : Job) → ByRules (job_rules j []) (shown_in j.state.stage j) (show_job j)

-- Soundness is document 01's list, and it is kept: the test says what the definition says; a step of any sound open job below the cap
-- is sound, and so is every job that the machine reaches from a fresh one
pub record SoundnessIsKept : Type 0 where
  pub test : (j : Job) → is_sound j ≡ true ↔ Sound j
  pub step : (j : Job) → Taken j.table → Sound j → j.state.stage ≡ Open → j.state.k < cap → Sound (step j)
  pub reached : (t : Table) → Taken t → (m : ℕ) → m ≤ cap → Sound (run m (fresh t))

-- Demand 2, of any job handed in: a gate that is shown has the table's value on every row that is cared for, and the checker accepts it; "not a threshold
-- function" is said only with a witness that the checker accepts, and then no integer weights and threshold of any size realise the table
pub record ShownIsRight : Type 0 where
  pub gate : (j : Job) (g : Gate) → show_job j ≡ Ok (Verdict'.Gate g) → Realises g.weights g.threshold (function_of j.table)
  pub gate_accepted : (j : Job) (g : Gate) → show_job j ≡ Ok (Verdict'.Gate g) → check_gate j.table g ≡ Ok true
  pub witness_accepted : (j : Job) (w : Witness) → show_job j ≡ Ok (Verdict'.Witness w) → check_witness j.table w ≡ Ok true
  pub no_gate_lem : (j : Job) (w : Witness) → show_job j ≡ Ok (Verdict'.Witness w) → (ws : List ℤ) (th : ℤ) → ¬ Realises ws th (function_of j.table)

-- Carry-on is the machine: an accepted call gives the machine's job after the budget or at its end, and its K has grown by the corrections
-- made; two accepted calls are one run of the sum; a refused call gives the number, the job as it came in, and 0. What is decided in one call is one
-- carry-on of the whole call budget
pub record CarryOnIsTheMachine : Type 0 where
  pub job : (j next : Job) (b : ℕ) → carry_on j b ≡ Ok next → next ≡ run b j
  pub growth : (j next : Job) (b : ℕ) → carry_on j b ≡ Ok next → (carried j (carry_on j b)).made + j.state.k ≡ (run b j).state.k
  pub sum : (j next last : Job) (a b : ℕ) → carry_on j a ≡ Ok next → carry_on next b ≡ Ok last → last ≡ run (a + b) j
  pub decided : (t : Table) → Taken t → carry_on (fresh t) call_budget ≡ decided_job t
  pub kept : (j : Job) (b : ℕ) (e : Refusal) → carry_on j b ≡ Err e → ((carried j (carry_on j b)).job ≡ j) × ((carried j (carry_on j b)).made ≡ 0)

-- Demand 3: K is at most (n + 1) × (4 × the sum of the squared weights + (2T − 1) squared) for every choice of n integer weights and a T,
-- of any size, that realises the table; and the sum of the squares of a1..an and b is at most (n + 1) × K
pub record CorrectionsAreBounded : Type 0 where
  pub bound : (t : Table) → Taken t → (m : ℕ) (ws : List ℤ) (th : ℤ) → length ws ≡ t.n → Realises ws th (function_of t) → (run m (fresh t)).state.k ≤ (t.n + 1) * factor ws th
  pub vector : (t : Table) (m : ℕ) → squares (run m (fresh t)).state.v ≤ (t.n + 1) * (run m (fresh t)).state.k

-- Beyond the demands: a table that some integer gate realises never ends looped or binate, and once the budgets reach (n + 1) × that gate's
-- factor, below the cap, the job is found. A function that fits is never written off, and given up only below its own bound
pub record WhatFitsIsFound : Type 0 where
  pub never_looped : (t : Table) → Taken t → (ws : List ℤ) (th : ℤ) → Realises ws th (function_of t) → (m : ℕ) → m ≤ cap → (run m (fresh t)).state.stage ≢ Looped
  pub never_binate : (t : Table) → Taken t → (ws : List ℤ) (th : ℤ) → Realises ws th (function_of t) → (m : ℕ) → m ≤ cap → (run m (fresh t)).state.stage ≢ Binate
  pub found : (t : Table) → Taken t → (ws : List ℤ) (th : ℤ) → length ws ≡ t.n → Realises ws th (function_of t)
      → (m : ℕ) → (t.n + 1) * factor ws th ≤ m → m ≤ cap → (run m (fresh t)).state.stage ≡ Found
