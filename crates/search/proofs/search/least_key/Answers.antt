-- `search::least_key` meets its contract. Assumes nothing.
use mathlib.Core.Path.{◌≡◌, sym, ◌∙◌, ap}
use Prim.Native.Nat.{◌+◌, ◌^◌, ◌<◌}
use native.Mathlib.Omega.{arith}
use borrow.Author.Rules.{rules}
use lib.Bits.{bit_and, bit_xor}
use lib.ListN.{get_or}
use lib.IntN.{ℤ, pos, neg_ℤ, nat_abs, ◌+ℤ◌, ◌-ℤ◌}
use mir.Syntax.{w16}
use mir.Val.{to_z, of_z, SFits}
use mir.Facts.{to_z-of_z}
use Rattle.numbers.proofs.Int.{nat_abs_parts, up, dn, parts_neg, size_add}
use Rattle.numbers.proofs.Widths.{size_fits}
use Rattle.search.specs.Keys.{flipped_by, block_key}
use Rattle.search.proofs.KeyLaws.{key_bits, least_none, least_more}
use Rattle.search.proofs.search.least_key.Goals as goal

pub loop-row-init : goal.loop-row-init
loop-row-init c = sym (least_none _)

-- ---- a pass: the sum of the row, that of the higher inputs, and what is taken from them
module _ (own high one : ℤ) (own_fits : SFits w16 own) (high_fits : SFits w16 high) (one_fits : SFits w16 one)
    (sizes : nat_abs own + nat_abs high + nat_abs one < 2 ^ 15)
  where
    -- their sizes leave room for the difference
    room : up own + dn own + (up high + dn high) + (up one + dn one) < 32768
    room = omega (arith, sizes, nat_abs_parts own, nat_abs_parts high, nat_abs_parts one)

    -- the distance, as the code adds it up
    abbrev added : ℤ
    added = to_z w16 (of_z w16 own) +ℤ to_z w16 (of_z w16 high)

    away : added ≡ own +ℤ high
    away = rw (to_z-of_z {w = w16} {z = own} own_fits, to_z-of_z {w = w16} {z = high} high_fits)

    added_fits : SFits w16 added
    added_fits = rw away (size_fits (omega (arith, room, size_add own high)))

    -- the difference, as the code takes it
    abbrev less : ℤ
    less = to_z w16 (of_z w16 added) -ℤ to_z w16 (of_z w16 one)

    difference : less ≡ own +ℤ high -ℤ one
    difference = rw (to_z-of_z {w = w16} {z = added} added_fits, away, to_z-of_z {w = w16} {z = one} one_fits)

    less_fits : SFits w16 less
    less_fits =
        rw difference
        (size_fits (omega (arith, room, size_add own high, size_add (own +ℤ high) (neg_ℤ one), parts_neg one)))

    -- the key of the row
    key_read : (key : ℤ) → SFits w16 key
        → to_z w16 (bit_xor (bit_and (of_z w16 less) 32768) (of_z w16 key)) ≡ flipped_by (own +ℤ to_z w16 (of_z w16 high) -ℤ one) key
    key_read key key_fits =
        key_bits less key less_fits key_fits
        ∙ ap (λ (z : ℤ). flipped_by z key) difference
        ∙ ap (λ (z : ℤ). flipped_by (own +ℤ z -ℤ one) key) (sym (to_z-of_z {w = w16} {z = high} high_fits))

pub loop-row-preserved : goal.loop-row-preserved
unfolding block_key
loop-row-preserved c =
    let row = c.loop-row.row in
    let own = get_or c.args.sums.now row (pos 0) in
    let one = get_or c.args.ones.now row (pos 0) in
    let key = get_or c.args.keys.now row (pos 0) in
    let own_fits : SFits w16 own = search rules in
    let one_fits : SFits w16 one = search rules in
    let key_fits : SFits w16 key = search rules in
    let next = key_read own c.args.high one own_fits c.ranges.high one_fits (c.requires.room row (omega arith)) key key_fits in
    let least_fits : SFits w16 c.min-least.result = record { sfits = c.min-least.type_inv } in
    to_z-of_z least_fits ∙ c.min-least.ensures.value ∙ least_more row _ c.loop-row.invariant next
