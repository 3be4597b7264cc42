-- A state taken apart, so that its counts can be lent: its core and its counts. For the inside of the machine alone. Definitions only.
-- Assumes nothing.
use Rattle.std.specs.Prelude.{List, ℕ}
use Rattle.types.specs.declared.stage.Stage.{Stage}
use Rattle.types.specs.declared.state.State.{State}
use Rattle.types.specs.declared.vector.Vector.{Vector}
use Rattle.machine.specs.declared.core_state.Core.{Core}

-- a core with other vectors, in a stage
abbrev pub core_with : Core → (v s : Vector) → Stage → Core
core_with c v s stage = record { k = c.k; v = v; mark = c.mark; s = s; stage = stage }

-- the state put together
abbrev pub state_of : Core → List ℕ → State
state_of c counts = record { k = c.k; v = c.v; mark = c.mark; s = c.s; counts = counts; stage = c.stage }
