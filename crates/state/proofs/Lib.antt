-- a step by its cases, the fresh state, runs
pub mod MachineLaws
-- the test of a sound state, with its meaning
pub mod SoundLaws
-- what code takes from a sound state
pub mod SoundBounds
-- a correction keeps the trace
pub mod TraceLaws
-- a step of a sound state is sound
pub mod StepSound
-- the fresh state is sound
pub mod FreshSound
-- the machine's states are sound, and K counts the steps
pub mod Soundness
