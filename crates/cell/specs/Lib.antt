-- each call's rules in their order, and its value
pub mod Calls
-- tables with every row cared for, of any number of inputs
pub mod Whole
