-- what a job has come to, as a record
pub mod Outcome
