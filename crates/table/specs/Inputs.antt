-- The kinds of inputs (document 01, "Kinds, Chow, report" and "The stepping machine"; source document 000, algorithm 1).
-- Definitions only. Assumes nothing.
use Rattle.std.specs.Prelude.{Bool, true, false, ◌&&◌, List, ℕ, ltb, is_some}
use Rattle.numbers.specs.Tabulate.{tabulate}
use Rattle.types.specs.declared.table.Table.{Table}
use Rattle.types.specs.declared.inputs.InputKind.{InputKind}
use Rattle.types.specs.declared.inputs.InputKind.TheVariants.{Idle, Rising, Falling, Binate}
use Rattle.table.specs.Table.{function_of}
use Rattle.function.specs.Turns.{first_turn}

-- an input's kind, by whether it rises somewhere and whether it falls somewhere. The field's terms: inessential, positive unate,
-- negative unate, binate
abbrev pub kind_by : Bool → Bool → InputKind
kind_by false false = Idle
kind_by true false = Rising
kind_by false true = Falling
kind_by true true = Binate

-- the kind at a place; past n it is idle
unfoldable pub input_kind_at : Table → ℕ → InputKind
unfolding first_turn
input_kind_at t place = kind_by (ltb place t.n && is_some (first_turn (function_of t) true place)) (ltb place t.n && is_some (first_turn (function_of t) false place))

-- the kinds of all eight places
unfoldable pub kinds_of : Table → List InputKind
unfolding tabulate input_kind_at
kinds_of t = tabulate 8 (input_kind_at t)
