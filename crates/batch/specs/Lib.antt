-- a report line by line
pub mod Progress
-- what filling a buffer with lines gives
pub mod Filled
