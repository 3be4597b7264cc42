-- `words::side_words` meets its contract. The loop's invariant: the words of both sides below `at` are made. Assumes nothing.
use mathlib.Core.Path.{◌≡◌, refl, ◌∙◌, ap, ap₂}
use mathlib.Core.Bool.{Bool, true, false, ◌&&◌}
use mathlib.Core.List.{List}
use Prim.Native.Nat.{ℕ, ◌+◌, ◌*◌, ◌-◌, ◌^◌}
use native.Mathlib.Omega.{arith}
use lib.Bits.{bit_and}
use lib.Dec.{ltb}
use lib.ListN.{replicate}
use Rattle.numbers.specs.Packed.{packed}
use Rattle.numbers.specs.Tests.{same_bool}
use Rattle.numbers.proofs.PackedLaws.{packed_ext}
use Rattle.numbers.proofs.TabulateLaws.{filled_none, filled_more, filled_all, tabulate_ext}
use Rattle.types.specs.declared.table.Table.{Table}
use Rattle.table.specs.Table.{rows, bit_at}
use Rattle.scan.specs.Scan.{in_table}
use Rattle.unateness.specs.Words.{bits_from, word_of, on_side}
use Rattle.unateness.proofs.PairLaws.{word_trues, word_falses}
use Rattle.unateness.proofs.words.side_words.Goals as goal

pub loop-at-init : goal.loop-at-init
loop-at-init c = (filled_none _ (replicate 4 0), filled_none _ (replicate 4 0))

pub loop-at-preserved : goal.loop-at-preserved
loop-at-preserved c =
    let at = c.loop-at.at in
    let rounds : 8 * (8 * at) ≡ 64 * at = omega arith in
    let value = c.eight_bytes-values.ensures ∙ ap (λ (from : ℕ). packed 64 (bits_from c.args.table.bytes from)) rounds in (
      filled_more _ (replicate 4 0) at (omega arith) c.loop-at.invariant.0 (ap₂ bit_and c.word_at-cared.ensures value),
      filled_more _ (replicate 4 0) at (omega arith) c.loop-at.invariant.1 (ap₂ (λ (x y : ℕ). bit_and x (2 ^ 64 - 1 - y)) c.word_at-cared.ensures value),
    )

-- a value past the rows is not cared for, so that it need not be cut
side_word : (t : Table) (side : Bool) (k : ℕ)
    → word_of (λ r. in_table (rows t) t.cares r && same_bool (bit_at t.bytes r) side) k ≡ word_of (on_side t side) k
side_word t side k = packed_ext 64 _ _ (λ j l. by (ltb (64 * k + j) (rows t)) (bit_at t.cares (64 * k + j)) (bit_at t.bytes (64 * k + j)))
  where
    by : (inside care v : Bool) → ((inside && care) && same_bool v side) ≡ ((inside && care) && same_bool (inside && v) side)
    by true care v = refl
    by false care v = refl

pub returns : goal.returns
returns c =
    let at_end_lem = c.loop-at in
    let t = c.args.table in
    let counted = ap (λ (rows : ℕ). in_table rows t.cares) c.row_count-rows.ensures in
    ap₂ (λ (trues falses : List ℕ). record { trues = trues; falses = falses })
    (filled_all _ (replicate 4 0) at_end_lem.at 4 (omega arith) (omega arith) at_end_lem.invariant.0
    ∙ tabulate_ext _ _ 4 (λ k l. ap (λ (cares : ℕ → Bool). bit_and (word_of cares k) (word_of (bit_at t.bytes) k)) counted ∙ word_trues (in_table (rows t) t.cares) (bit_at t.bytes) k ∙ side_word t true k))
    (filled_all _ (replicate 4 0) at_end_lem.at 4 (omega arith) (omega arith) at_end_lem.invariant.1
    ∙ tabulate_ext _ _ 4 (λ k l. ap (λ (cares : ℕ → Bool). bit_and (word_of cares k) (2 ^ 64 - 1 - word_of (bit_at t.bytes) k)) counted ∙ word_falses (in_table (rows t) t.cares) (bit_at t.bytes) k ∙ side_word t false k))
