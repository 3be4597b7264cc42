-- a record: its bytes, and what bytes mean
pub mod Record
