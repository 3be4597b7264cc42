-- where a reader stands
pub mod Reader
