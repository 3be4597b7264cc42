-- the kinds that a caller takes
pub mod Heads
