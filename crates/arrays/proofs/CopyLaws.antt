-- An array of one value with a list copied to its front is the list, padded with that value. Assumes nothing.
use mathlib.Core.Path.{◌≡◌, ap₂}
use mathlib.Core.List.{List, ◌++◌}
use Prim.Native.Nat.{ℕ, ◌≤◌}
use lib.ListN.{length, drop, replicate}
use Rattle.numbers.proofs.TabulateLaws.{drop_replicate}
use Rattle.table.specs.Table.{padded}

pub copied_padded : {A : Type 0} (d : A) (xs : List A) {front : List A} (n : ℕ) → front ≡ xs → length xs ≤ n
    → front ++ drop (length xs) (replicate n d) ≡ padded n d xs
copied_padded {A} d xs n e h = ap₂ (λ (l r : List A). l ++ r) e (drop_replicate (length xs) n d h)
