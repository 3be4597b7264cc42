-- a state taken apart: its core and its counts
pub mod Core
