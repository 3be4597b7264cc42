-- A sound job: the computed test with its meaning, and what code takes from it, by the laws of its state. Assumes nothing.
use Rattle.std.specs.Prelude.{◌≡◌, ℕ, ◌≤◌, true, ◌≢◌, ◌↔◌, get_or}
use mathlib.Core.Path.{refl}
use Rattle.types.specs.declared.table.Table.{Table}
use Rattle.types.specs.declared.state.State.{State}
use Rattle.types.specs.declared.stage.Stage.{Stage}
use Rattle.types.specs.declared.stage.Stage.TheVariants.{Binate}
use Rattle.table.specs.Table.{rows, function_of}
use Rattle.state.specs.Sound as Sound'
use Rattle.state.specs.Sound.{Ranged, SoundIn}
use Rattle.state.proofs.SoundBounds as state
use Rattle.state.proofs.SoundLaws as test
use Rattle.job.specs.declared.job.Job.{Job}
use Rattle.job.specs.Sound.{Sound, is_sound}
pub use Rattle.state.proofs.SoundBounds.{in_range_search, sound_current, sound_copied}

-- on a table v and s lie within ±K
module _ (t : Table) {x : State} (s : Sound'.Sound (function_of t) x) where
  pub table_current : Ranged x.k t.n x.v
  table_current = state.unit_current refl s

  pub table_copied : Ranged x.k t.n x.s
  table_copied = state.unit_copied refl s

-- the test of a sound job says so
pub is_sound_correct : (j : Job) → is_sound j ≡ true ↔ Sound j
is_sound_correct j = test.is_sound_correct (function_of j.table) j.state

-- what a stage asks, of a job in that stage
pub sound_in_lem : (stage : Stage) (j : Job) → Sound j → j.state.stage ≡ stage → SoundIn (function_of j.table) stage j.state
sound_in_lem stage j s e = state.sound_in_lem s stage e

-- a row past the table has no count
pub sound_past : (j : Job) → Sound j → (r : ℕ) → rows j.table ≤ r → get_or j.state.counts r 0 ≡ 0
sound_past j s = state.sound_past s

-- each count of a sound job that is not binate is at most K
pub sound_count : (j : Job) → Sound j → j.state.stage ≢ Binate → (r : ℕ) → get_or j.state.counts r 0 ≤ j.state.k
sound_count j s = state.sound_count s
