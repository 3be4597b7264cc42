-- a table's rows, values, function and spare bits
pub mod Table
-- the ranges of a gate's numbers
pub mod Gate
-- the ranges of a witness's counts
pub mod Witness
-- the kinds of inputs
pub mod Inputs
-- Chow's parameters
pub mod Chow
