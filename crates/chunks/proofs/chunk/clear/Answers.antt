-- `chunk::clear` meets its contract. Assumes nothing.
use Rattle.std.specs.Prelude.{◌≡◌, ℕ, List, ◌++◌}
use mathlib.Core.Path.{refl, ◌∙◌, ap}
use native.Mathlib.Omega.{arith}
use lib.ListN.{length, drop}
use Rattle.std.proofs.Common.{length-take-le}
use Rattle.numbers.proofs.TabulateLaws.{tabulate_get_d}
use Rattle.chunks.proofs.chunk.clear.Goals as goal

pub returns : goal.returns
returns c =
    let size : length c.fill.new.self ≡ c.args.rows = c.fill.ensures.len ∙ length-take-le c.args.rows c.args.counts.now (omega arith) in
    ap (λ (l : List ℕ). l ++ drop c.args.rows c.args.counts.now)
    (tabulate_get_d (λ (row : ℕ). 0) c.args.rows 0 c.fill.new.self size (λ i h. c.fill.ensures.clones i 0 (omega (arith, c.fill.ensures.len, size)) refl))
