-- the table of steps
pub mod Steps
