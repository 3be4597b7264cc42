-- the stepping machine on a function and a state
pub mod Machine
-- a sound state, and the test of it
pub mod Sound
