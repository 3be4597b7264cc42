-- Laws of the code of the row that a search found: half of it is the row. Assumes nothing.
use Rattle.std.specs.Prelude.{◌≡◌, ℕ, ◌/◌, ◌<◌, ◌≤◌, Bool, true, false, ◌≢◌}
use mathlib.Core.Path.{refl, sym, ◌∙◌, ap}
use Rattle.std.specs.Prelude.{Option, Some, None}
use native.Mathlib.Omega.{arith}
use Rattle.types.specs.declared.table.Table.{Table}
use Rattle.table.specs.Table.{value, function_of}
use Rattle.table.proofs.TableLaws.{rows_le}
use Rattle.types.specs.declared.vector.Vector.{Vector}
use Rattle.function.specs.Failing.{failing}
use Rattle.function.proofs.FailingLaws.{failing_some}
use Rattle.lanes.specs.Codes.{row_code, found_code}

-- half of a row's code is the row
half_code : (y : Bool) (r : ℕ) → row_code y r / 2 ≡ r
half_code true r = omega arith
half_code false r = omega arith

-- the code of one of 256 rows is below 512
pub code_below : (y : Bool) (r : ℕ) → r < 256 → row_code y r < 512
code_below true r h = omega arith
code_below false r h = omega arith

module _ (t : Table) (v : Vector) where
  -- where nothing is found no row fails
  pub no_row : None ≡ found_code t (failing (function_of t) v) → failing (function_of t) v ≡ None
  no_row = by (failing (function_of t) v)
    where
      by : (o : Option ℕ) → None ≡ found_code t o → o ≡ None
      by None e = refl
      by (Some r) e = cc

  -- what is found is the code of the lowest failing row, which is its half
  pub row_is : {code : ℕ} → Some code ≡ found_code t (failing (function_of t) v)
      → (failing (function_of t) v ≡ Some (code / 2)) × (code ≡ row_code (value t (code / 2)) (code / 2))
  row_is {code} = by (failing (function_of t) v)
    where
      by : (o : Option ℕ) → Some code ≡ found_code t o → (o ≡ Some (code / 2)) × (code ≡ row_code (value t (code / 2)) (code / 2))
      by None e = cc
      by (Some r) e =
          let same : code ≡ row_code (value t r) r = cc in
          let half : r ≡ code / 2 = sym (ap (λ (x : ℕ). x / 2) same ∙ half_code (value t r) r) in
          (ap Some half, same ∙ ap (λ (x : ℕ). row_code (value t x) x) half)
