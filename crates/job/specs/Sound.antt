-- A sound job (document 01, "The stepping machine"): its state is sound on its table; and the test that code computes. `is_sound_correct` of proofs/
-- joins the two. Definitions only. Assumes nothing.
use Rattle.std.specs.Prelude.{Bool}
use Rattle.state.specs.Sound as state
use Rattle.job.specs.declared.job.Job.{Job}
use Rattle.table.specs.Table.{function_of}
pub use Rattle.state.specs.Sound.{cap, mark_for}

abbrev pub Sound : Job → Type 0
Sound j = state.Sound (function_of j.table) j.state

abbrev pub is_sound : Job → Bool
is_sound j = state.is_sound (function_of j.table) j.state
