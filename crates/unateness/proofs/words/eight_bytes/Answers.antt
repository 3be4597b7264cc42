-- `words::eight_bytes` meets its contract. The loop's invariant: the word is the bits of the bytes passed. Assumes nothing.
use mathlib.Core.Path.{◌≡◌, sym, ◌∙◌, ap₂}
use mathlib.Core.List.{List}
use lib.ListN.{get_or}
use lib.ListN.{drop}
use lib.Seq.{get_or-drop}
use Rattle.std.proofs.lemmas.List.{get_or-take, length-take}
use borrow.Author.Rules.{rules}
use mir.Syntax.{w8, w64}
use mir.Val.{Fits}
use Prim.Native.Nat.{ℕ, ◌+◌, ◌*◌, ◌^◌, ◌%◌, ◌-◌, ◌≤◌, ◌<◌}
use native.Mathlib.Nat.{lt_of_lt_of_le}
use native.Mathlib.Omega.{arith}
use lib.Pow.{pow_mono}
use Rattle.numbers.specs.Packed.{packed}
use Rattle.unateness.specs.Words.{bits_from}
use Rattle.numbers.proofs.PackedLaws.{packed_lt, packed_none}
use Rattle.unateness.proofs.PairLaws.{bytes_more}
use Rattle.unateness.proofs.words.eight_bytes.Goals as goal
use Rattle.unateness.proofs.words.eight_bytes.Goals.{After-from}

pub loop-at-init : goal.loop-at-init
loop-at-init c = sym (packed_none 0 _ (λ j l. absurd (omega arith)))

-- the bits of the first m of the eight bytes
abbrev bits : List ℕ → ℕ → ℕ → ℕ
bits bytes first m = packed (8 * m) (bits_from bytes (8 * first))

bits_fit : (bytes : List ℕ) (first m : ℕ) → m ≤ 8 → Fits w64 (bits bytes first m)
bits_fit bytes first m h = record { fits = lt_of_lt_of_le (packed_lt (8 * m) _) (pow_mono {i = 8 * m} {j = 64} (omega arith)) }

-- there are eight
below : (c : After-from) → c.loop-at.at < 8
below c = omega (arith, length-take (c.args.first + 8 - c.args.first) (drop c.args.first c.args.bytes.now))

-- the sum of a round has those of one byte more
more : (c : After-from) → c.loop-at.word + c.from.result * 2 ^ (8 * c.loop-at.at) % 2 ^ 64 ≡ bits c.args.bytes.now c.args.first (c.loop-at.at + 1)
more c =
    let bytes = c.args.bytes.now in
    let first = c.args.first in
    let at = c.loop-at.at in
    let read : c.from.result ≡ get_or bytes (first + at) 0 =
    c.from.ensures ∙ get_or-take (first + 8 - first) (drop first bytes) at 0 (omega (arith, below c)) ∙ get_or-drop first bytes at 0
    in
    let byte : Fits w8 (get_or bytes (first + at) 0) = search rules in
    ap₂ (λ (x y : ℕ). x + y * 2 ^ (8 * at) % 2 ^ 64) c.loop-at.invariant read ∙ bytes_more bytes first at (below c) byte.fits

pub overflow_add-word : goal.overflow_add-word
overflow_add-word c =
    rw (more (goal.at.overflow_add-word c).After-from) (bits_fit c.args.bytes.now c.args.first (c.loop-at.at + 1) (omega (arith, below (goal.at.overflow_add-word c).After-from)))

pub loop-at-preserved : goal.loop-at-preserved
loop-at-preserved c = more (goal.at.loop-at-preserved c).After-from
