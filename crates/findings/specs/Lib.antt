-- what a job has found, as numbers
pub mod Findings
