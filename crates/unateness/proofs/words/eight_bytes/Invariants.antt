-- `words::eight_bytes` meets its contract. The loop's invariant: the word is the bits of the bytes passed. Assumes nothing.
use mathlib.Core.Path.{◌≡◌}
use Prim.Native.Nat.{◌*◌}
use Rattle.numbers.specs.Packed.{packed}
use Rattle.unateness.specs.Words.{bits_from}
use Rattle.unateness.proofs.words.eight_bytes.Given as goal

abbrev pub invariant-loop-at : goal.invariant-loop-at
invariant-loop-at l = l.word ≡ packed (8 * l.at) (bits_from l.fn.bytes (8 * l.fn.first))
