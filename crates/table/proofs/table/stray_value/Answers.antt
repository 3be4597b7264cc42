-- `table::stray_value` meets its contract: a value is astray exactly if a byte of the rows has a value bit without its care bit. Assumes nothing.
use mathlib.Core.Path.{◌≡◌, refl, sym, ◌∙◌, ap, ap₂}
use mathlib.Core.Bool.{true}
use Prim.Native.Nat.{ℕ, ◌+◌, ◌-◌, ◌*◌, ◌≤◌, ◌<◌}
use native.Mathlib.Decide.{dec_le}
use native.Mathlib.Omega.{arith}
use lib.Bits.{bit_or}
use lib.ListN.{get_or}
use mir.Syntax.{w8}
use mir.Val.{Fits}
use borrow.Author.Rules.{rules}
use Rattle.numbers.proofs.PackedLaws.{or_none}
use Rattle.numbers.proofs.TestLaws.{unless_zero}
use Rattle.types.specs.declared.table.Table.{Table}
use Rattle.table.specs.Table.{stray_value}
use Rattle.table.proofs.RowLaws.{ByteArray}
use Rattle.table.proofs.TableLaws.{bytes_le}
use Rattle.table.proofs.CareLaws.{stray_byte, kept_at, byte_kept, none_stray, kept_all}
use Rattle.table.proofs.table.stray_value.Goals as goal

module _ (t : Table) (values : ByteArray t.bytes) (cares : ByteArray t.cares) where
  -- the rows of a byte more, where no bit of it is gathered
  more : (at r : ℕ) → at < 32 → ((q : ℕ) → q < 8 * at → kept_at t q ≡ true) → stray_byte t at ≡ 0 → r < 8 * (at + 1) → Dec (8 * at ≤ r) → kept_at t r ≡ true
  more at r l before here h (yes from) =
      let back : 8 * at + (r - 8 * at) ≡ r = omega arith in
      ap (kept_at t) (sym back) ∙ byte_kept t values cares at l here (r - 8 * at) (omega arith)
  more at r l before here h (no below) = before r (omega arith)

pub loop-at-init : goal.loop-at-init
loop-at-init c = (λ e r h. absurd (omega arith), λ none. refl)

pub loop-at-preserved : goal.loop-at-preserved
loop-at-preserved c =
    let t = c.args.table in
    let at = c.loop-at.at in
    let values : ByteArray t.bytes = record { size = search rules; fits = λ i l. let byte : Fits w8 (get_or t.bytes i 0) = search rules in byte.fits } in
    let cares : ByteArray t.cares = record { size = search rules; fits = λ i l. let byte : Fits w8 (get_or t.cares i 0) = search rules in byte.fits } in
    let inside : at < 32 = omega (arith, c.byte_count-count.ensures, bytes_le c.requires.0) in (
      λ e r h.
          let none = or_none c.loop-at.stray (stray_byte t at) e in
          more t values cares at r inside (c.loop-at.invariant.0 none.0) none.1 h (dec_le (8 * at) r),
      λ none. ap₂ bit_or (c.loop-at.invariant.1 none) (none_stray t values cares c.requires.0 c.requires.1 none at inside),
    )

pub returns : goal.returns
returns c =
    let t = c.args.table in
    let values : ByteArray t.bytes = record { size = search rules; fits = λ i l. let byte : Fits w8 (get_or t.bytes i 0) = search rules in byte.fits } in
    let cares : ByteArray t.cares = record { size = search rules; fits = λ i l. let byte : Fits w8 (get_or t.cares i 0) = search rules in byte.fits } in
    unless_zero _ (stray_value t)
    (λ zero. kept_all t values cares (λ r h. c.loop-at.invariant.0 zero r (omega (arith, c.byte_count-count.ensures))))
    c.loop-at.invariant.1
