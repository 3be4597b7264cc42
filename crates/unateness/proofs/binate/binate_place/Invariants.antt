-- `binate::binate_place` meets its contract. The loop's invariant: no place below `place` is binate in the table of the words. Assumes nothing.
use mathlib.Core.Path.{◌≡◌}
use mathlib.Core.Bool.{false}
use Prim.Native.Nat.{ℕ, ◌<◌}
use Rattle.function.specs.Binate.{binate_at}
use Rattle.table.specs.Table.{function_of}
use Rattle.unateness.proofs.binate.binate_place.Given as goal

abbrev pub invariant-loop-place : goal.invariant-loop-place
invariant-loop-place l = (p : ℕ) → p < l.place → binate_at (function_of l.fn.table) p ≡ false
