-- a table as it is written, and its length
pub mod TableParts
