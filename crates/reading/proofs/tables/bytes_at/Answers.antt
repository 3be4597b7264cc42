-- `crate::tables::bytes_at` meets its contract: in an array of zeros, zeros are left behind the bytes. Assumes nothing.
use mathlib.Core.Path.{◌≡◌}
use Prim.Native.Nat.{ℕ, ◌+◌, ◌-◌, ◌≤◌}
use native.Mathlib.Omega.{arith}
use lib.ListN.{length, take, drop, length-drop}
use lib.Seq.{length-take-le}
use Rattle.numbers.proofs.TabulateLaws.{drop_replicate}
use Rattle.reading.proofs.tables.bytes_at.Goals as goal

pub returns : goal.returns
returns c =
    let s = c.args.bytes.now in
    let at = c.args.at in
    let count = c.args.count in
    let copied : at + count - at ≡ count = omega arith in
    let long : length (take count (drop at s)) ≡ count = length-take-le count (drop at s) (omega (arith, length-drop at s)) in
    let few : count ≤ 32 = omega arith in
    rw (c.copy_from_slice.ensures.after, copied, long, drop_replicate {A = ℕ} count 32 0)
