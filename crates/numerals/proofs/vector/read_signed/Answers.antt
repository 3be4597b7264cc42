-- `crate::vector::read_signed` meets its contract: a number that is read is below 2097152. Assumes nothing.
use Rattle.std.proofs.Common.{sym}
use native.Mathlib.Omega.{arith}
use Rattle.codec.proofs.NumberLaws.{number_written}
use Rattle.numerals.proofs.vector.read_signed.Goals as goal

pub signed_of-value-requires : goal.signed_of-value-requires
signed_of-value-requires c =
    let a = c.args in
    (number_written a.bytes.now a.at c.in_ok-number.number (λ i h. omega (arith, c.type_inv.bytes i)) (sym c.in_ok-number.ensures)).small
