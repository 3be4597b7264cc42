-- The lowest binate input of a function, and the counts that show it (document 01, "The stepping machine"). Definitions only.
-- Assumes nothing.
use Rattle.std.specs.Prelude.{Bool, true, false, ◌&&◌, List, ℕ, suc}
use Rattle.std.specs.Prelude.{Option, Some, None}
use Rattle.numbers.specs.Tests.{first_from}
use Rattle.std.specs.Prelude.{is_some}
use Rattle.function.specs.Function.{Function, raised_in}
use Rattle.function.specs.Witness.{one_more, zeros}
use Rattle.function.specs.Turns.{first_turn}

-- the place's input is binate: it rises somewhere and falls elsewhere
unfoldable pub binate_at : Function → ℕ → Bool
binate_at f place = is_some (first_turn f true place) && is_some (first_turn f false place)

-- the place of the lowest binate input
unfoldable pub binate_place : Function → Option ℕ
binate_place f = first_from (binate_at f) f.places 0

-- a row of a pair and its partner with the input raised (of a table: true) have one more count
abbrev pub pair_more : (base place : ℕ) → Option ℕ → List ℕ → List ℕ
pair_more base place None counts = counts
pair_more base place (Some r) counts = one_more (raised_in base place r) (one_more r counts)

-- the counts of a binate input: 1 at the lowest row where the input rises, at the lowest where it falls, and at their partners. The
-- four rows of a table differ
unfoldable pub binate_counts : Function → ℕ → List ℕ
binate_counts f place =
    let pair = pair_more (suc f.top) place in pair (first_turn f false place) (pair (first_turn f true place) zeros)
