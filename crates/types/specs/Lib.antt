-- the numbers of the refusals
pub mod Refusal
