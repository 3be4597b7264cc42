-- rows, bytes and levels of a table, and its spare bits
pub mod TableLaws
-- the bits of rows in bytes
pub mod RowLaws
-- tables with every row cared for, and value bits on rows that are not
pub mod CareLaws
-- what the definitions over a function say of a table's, in the words of document 01
pub mod OnTables
-- the four counts of a binate input
pub mod BinateRows
-- the rows in which an input of a table turns the value, and its kind
pub mod InputLaws
-- counts that code lends
pub mod WitnessLaws
