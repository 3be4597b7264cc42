-- what the job of a record has found within a budget
pub mod Found
