-- tables as words of 64 rows
pub mod Words
