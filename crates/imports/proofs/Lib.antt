-- a table that is made by its rows keeps its format
pub mod RowLaws
