-- A gate held as a record: the ranges of its numbers (document 01, "Table, gate, witness"). `Gate` is the record that code holds.
-- Definitions only. Assumes nothing.
use Rattle.std.specs.Prelude.{Bool, not}
pub use Rattle.function.specs.Gate.{weight_limit, within, place_limit}
unfoldable pub use Rattle.function.specs.Gate.{in_range}
use Rattle.types.specs.declared.gate.Gate.{Gate}

-- refusal 7: a weight or T beyond its range, or a place past n not 0
abbrev pub beyond : Gate → Bool
beyond g = not (in_range weight_limit g.n g.weights g.threshold)
