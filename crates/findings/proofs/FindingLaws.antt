-- What a call answers of a gate or a witness found: the refusal of the carry-on, or else what is taken of the job after it, with the corrections
-- made. Assumes nothing.
use Rattle.std.specs.Prelude.{Ok, Err}
use mathlib.Core.Path.{◌≡◌, refl}
use mathlib.Core.Bool.{true}
use mathlib.Core.List.{List}
use Prim.Native.Nat.{ℕ, ◌≤◌}
use lib.IntN.{ℤ}
use lib.ListN.{length}
use Rattle.types.specs.declared.gate.Gate.{Gate}
use Rattle.refusal.specs.Refusal.{Answered, and_then}
use Rattle.refusal.proofs.TableChecked.{kept_inputs}
use Rattle.job.specs.declared.job.Job.{Job}
use Rattle.job.specs.declared.job.Carried.{Carried}
use Rattle.job.specs.Calls.{carry_on, carried, gate_of, witness_of}
use Rattle.job.proofs.CarriedLaws.{carried_taken}
use Rattle.writers.specs.Calls.{WroteBytes, fitted}
use Rattle.arrays.specs.Arrays.{PutGate, fitted_gate, counts_of}
use Rattle.handed.specs.Handed.{with_made, taken_with, taken_after, HandedBack}
use Rattle.handed.proofs.DecidedLaws.{carried_kept}
use Rattle.findings.specs.Findings.{has_gate, has_witness, gate_found, counts_found, GateBack}

-- what is taken of the job that a carry-on gave
abbrev pub taken : {A : Type 0} → (Job → Answered A) → Carried → Answered A
taken takes r = and_then r.status (λ u. takes r.job)

-- the lent number after a call that answers r
abbrev pub made_by : (made before : ℕ) → Answered ℕ → ℕ
made_by made before (Ok n) = made
made_by made before (Err e) = before

-- numbers that were put into what is lent, with the corrections made
with_gate : (a : Answered Gate) (made before : ℕ) (old : List ℤ) (held : ℤ) {q : Answered ℕ} {new : List ℤ} {t : ℤ} → PutGate a old held q new t
    → GateBack (with_made made a) old held before q new t (made_by made before q)
with_gate (Ok g) made before old held p = (p, rw (p.0.0) refl)
with_gate (Err e) made before old held p = (p, rw (p.0.0) refl)

with_counts : (a : Answered (List ℕ)) (made before : ℕ) (old : List ℕ) {q : Answered ℕ} {new : List ℕ} → WroteBytes a old q new
    → HandedBack (with_made made a) old before q new (made_by made before q)
with_counts (Ok counts) made before old p = (p, rw (p.0) refl)
with_counts (Err e) made before old p = (p, rw (p.0) refl)

-- r is what carrying the job j on by a budget gave
module _ (j : Job) (budget : ℕ) {r : Carried} (says : r ≡ carried j (carry_on j budget)) where
  -- what the call answers
  pub taken_is : {A : Type 0} (takes : Job → Answered A) → with_made r.made (taken takes r) ≡ taken_after budget takes j
  taken_is {A} takes = rw says (by (carry_on j budget))
    where
      by : (a : Answered Job) → with_made (carried j a).made (taken takes (carried j a)) ≡ and_then a (taken_with takes j)
      by (Ok next) = refl
      by (Err e) = refl

  -- the table has at most eight inputs
  pub carried_few : {u : Unit {0}} → r.status ≡ Ok u → r.job.table.n ≤ 8
  carried_few ok =
      let done = carried_taken j (carry_on j budget) (rw says at ok) in
      kept_inputs r.job.table (carried_kept j r.job budget (rw (← says) at done))

  -- what has been found goes into what is lent
  pub gate_back : {u : Unit {0}} → r.status ≡ Ok u → has_gate r.job.state.stage ≡ true → (before : ℕ) (old : List ℤ) (held : ℤ)
      → {q : Answered ℕ} {new : List ℤ} {t : ℤ} → PutGate (fitted_gate (length old) (gate_of r.job)) old held q new t
      → GateBack (taken_after budget (gate_found (length old)) j) old held before q new t (made_by r.made before q)
  gate_back ok has before old held p =
      rw (← taken_is (gate_found (length old)), ok, has) (with_gate (fitted_gate (length old) (gate_of r.job)) r.made before old held p)

  pub counts_back : {u : Unit {0}} → r.status ≡ Ok u → has_witness r.job.state.stage ≡ true → (before : ℕ) (old : List ℕ)
      → {q : Answered ℕ} {new : List ℕ} → WroteBytes (fitted (length old) (counts_of r.job.table (witness_of r.job))) old q new
      → HandedBack (taken_after budget (counts_found (length old)) j) old before q new (made_by r.made before q)
  counts_back ok has before old p =
      rw (← taken_is (counts_found (length old)), ok, has) (with_counts (fitted (length old) (counts_of r.job.table (witness_of r.job))) r.made before old p)
