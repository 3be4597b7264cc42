-- the machine on a job
pub mod Machine
-- a sound job
pub mod Sound
-- the calls on a job: rules and answers
pub mod Calls
