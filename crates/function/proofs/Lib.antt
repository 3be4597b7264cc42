-- rows and their levels, in any base
pub mod FunctionLaws
-- the gate rule as a test of the weighted sum, and the test that a gate realises a function
pub mod GateLaws
-- counts with 1 added, no counts, and the test that two arrays have the same
pub mod CountLaws
-- the sums over the rows of one side, and the test that counts balance
pub mod WitnessLaws
-- a balanced witness excludes every gate
pub mod Summability
-- the rows in which an input turns the value
pub mod TurnLaws
-- the range of a vector, and how a correction widens it
pub mod RangeLaws
-- equal vectors, and what a correction adds at each place
pub mod VectorLaws
-- the test that a row fails, and the lowest failing row
pub mod FailingLaws
-- the counts of a binate input balance
pub mod BinateLaws
