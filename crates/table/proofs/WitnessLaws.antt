-- An array of counts that code lends, by the facts of its type. Assumes nothing.
use mathlib.Core.Path.{◌≡◌}
use mathlib.Core.List.{List}
use Prim.Native.Nat.{ℕ}
use native.Mathlib.Omega.{arith}
use lib.ListN.{length}
use mir.Syntax.{w32}
use mir.Val.{Fits}
use Rattle.function.specs.Witness.{count_of}
use Rattle.table.specs.Witness.{CountArray}

pub count_array : {counts : List ℕ} → length counts ≡ 256 → ((r : ℕ) → Fits w32 (count_of counts r)) → CountArray counts
count_array size fits = record { size = size; fits = λ r. omega (arith, fits r) }
