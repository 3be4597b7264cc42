-- the machine on a job keeps its table
pub mod MachineLaws
-- a sound job: test and meaning
pub mod SoundLaws
-- the machine's jobs are sound
pub mod Soundness
-- what the test of a job says of the rules
pub mod JobChecked
-- what is decided is one carry-on of the fresh job
pub mod DecidedLaws
-- what a carry-on gave says of the call
pub mod CarriedLaws
