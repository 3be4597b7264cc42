-- `machine::binate::binate_counts` meets its contract: a row that a search finds has its partner in the table, and no count is above 2
-- before the second pair. Assumes nothing.
use mathlib.Core.Path.{◌≡◌, sym, ◌∙◌, ap}
use mathlib.Core.Bool.{Bool, true, false}
use Rattle.std.specs.Prelude.{Option, Some}
use Prim.Native.Nat.{ℕ, ◌+◌, ◌^◌, ◌<◌}
use native.Mathlib.Omega.{arith}
use Rattle.function.specs.Witness.{zeros}
use Rattle.function.specs.Turns.{first_turn}
use Rattle.function.specs.Binate.{pair_more}
use Rattle.unateness.proofs.BinateLaws.{first_turn_partner}
use Rattle.function.proofs.CountLaws.{get_d_zeros, pair_more_le}
use Rattle.function.proofs.BinateLaws.{binate_counts_pairs}
use Rattle.table.specs.Table.{function_of}
use Rattle.unateness.proofs.binate.binate_counts.Goals as goal
use Rattle.unateness.proofs.binate.binate_counts.Goals.{After-add_pair, Start}

-- the answer of a search for a turn names a row with its partner below 256
partner : (c : Start) (to : Bool) {answer : Option ℕ} → answer ≡ first_turn (function_of c.args.table) to c.args.place → (row : ℕ) → answer ≡ Some row → row + 2 ^ c.args.place < 256
partner c to is row e =
    let a = c.args in
    first_turn_partner a.table to a.place row c.requires.0 c.requires.1 (sym is ∙ e)

pub add_pair-requires : goal.add_pair-requires
add_pair-requires c = (omega arith, partner (goal.at.add_pair-requires c).Start _ c.first_turn.ensures, λ row. omega (arith, get_d_zeros row))

-- the counts of the first pair
rising : (c : After-add_pair) → let a = c.args in c.add_pair.new.counts ≡ pair_more 2 a.place (first_turn (function_of a.table) true a.place) zeros
rising c =
    let a = c.args in c.add_pair.ensures (first_turn (function_of a.table) true a.place) c.first_turn.ensures

pub add_pair-requires-2 : goal.add_pair-requires-2
add_pair-requires-2 c =
    let a = c.args in (
      omega arith,
      partner (goal.at.add_pair-requires-2 c).Start _ c.first_turn-2.ensures,
      λ row. rw (rising (goal.at.add_pair-requires-2 c).After-add_pair) (omega (arith, pair_more_le 2 a.place (first_turn (function_of a.table) true a.place) zeros row, get_d_zeros row)),
    )

pub returns : goal.returns
returns c =
    let a = c.args in
    let falls = first_turn (function_of a.table) false a.place in
    c.add_pair-2.ensures falls c.first_turn-2.ensures
    ∙ ap (pair_more 2 a.place falls) (rising (goal.at.returns c).After-add_pair)
    ∙ sym (binate_counts_pairs (function_of a.table) a.place)
