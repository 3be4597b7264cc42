-- `crate::vector::read_vector` meets its contract: each way that the next weight, or b, can go. Assumes nothing.
use Rattle.std.proofs.lemmas.Result.{err_from_is_err_and}
use mathlib.Core.Path.{◌≡◌, sym}
use mir.Syntax.{w32}
use mir.Val.{to_z, of_z}
use borrow.Author.Rules.{rules}
use Rattle.numerals.proofs.PlaceLaws.{weight_refused, weight_read, last_refused, last_read}
use Rattle.numerals.proofs.vector.read_vector.Goals as goal

pub returns-in_err-weight : goal.returns-in_err-weight
returns-in_err-weight c =
    let (m, is, same) = err_from_is_err_and c.from_residual.result c.from_residual.ensures.1 in
    rw (is, same) (sym (weight_refused c.loop-place.invariant c.loop-place-test.true (sym c.in_err-weight.ensures)))

pub returns-in_err-last : goal.returns-in_err-last
returns-in_err-last c =
    let (m, is, same) = err_from_is_err_and c.from_residual-in_err-last.result c.from_residual-in_err-last.ensures.1 in
    rw (is, same) (sym (last_refused c.loop-place.invariant c.loop-place-test.false (sym c.in_err-last.ensures)))

pub loop-place-preserved : goal.loop-place-preserved
loop-place-preserved c =
    let value_is : to_z w32 (of_z w32 c.in_ok-weight.weight.value) ≡ c.in_ok-weight.weight.value = search rules in
    rw value_is (weight_read c.loop-place.invariant c.loop-place-test.true (sym c.in_ok-weight.ensures))

pub returns : goal.returns
returns c =
    let value_is : to_z w32 (of_z w32 c.in_ok-last.last.value) ≡ c.in_ok-last.last.value = search rules in
    rw value_is (sym (last_read c.loop-place.invariant c.loop-place-test.false (sym c.in_ok-last.ensures)))
