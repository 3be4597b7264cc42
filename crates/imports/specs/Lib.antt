-- a table by its rows, as a record
pub mod Imports
