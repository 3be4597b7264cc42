-- functions of inputs with levels: rows, levels, values, rows that are cared for
pub mod Function
-- the distance of a row, the gate rule, when a gate realises a function, the test of it, and the range of a gate's numbers
pub mod Gate
-- counts of rows, the sums of a side, when they balance, the test of it, and when two are the same
pub mod Witness
-- the rows in which an input turns the value
pub mod Turns
-- the vector of a job, its correction by a row, and when two are equal
pub mod Vector
-- the rows that fail by a vector, and the lowest
pub mod Failing
-- the lowest binate input, and the counts that show it
pub mod Binate
