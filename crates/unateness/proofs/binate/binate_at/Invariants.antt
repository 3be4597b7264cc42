-- `binate::binate_at` meets its contract. The loop's invariant: the two words have gathered the rises and the falls of the words
-- below `at`. Assumes nothing.
use mathlib.Core.Path.{◌≡◌}
use mathlib.Core.Bool.{Bool, true, false}
use Prim.Native.Nat.{ℕ}
use Rattle.numbers.specs.Tabulate.{tabulate}
use Rattle.numbers.specs.Packed.{packed}
use Rattle.unateness.specs.Words.{word_of}
use Rattle.unateness.proofs.TurnLaws.{gathered, turned}
use Rattle.unateness.proofs.binate.binate_at.Given as goal

abbrev pub invariant-loop-at : goal.invariant-loop-at
invariant-loop-at l =
    (sides : Bool → ℕ → Bool) → l.trues ≡ tabulate 4 (word_of (sides true)) → l.falses ≡ tabulate 4 (word_of (sides false))
    → (l.rises ≡ packed 64 (gathered (turned sides true l.place) l.at)) × (l.falls ≡ packed 64 (gathered (turned sides false l.place) l.at))
