-- a call goes by its rules
pub mod Rules
-- the checker's yes
pub mod Checker
-- what a carry-on gives, by the stage
pub mod CarryOn
-- what a job shows
pub mod Shown
-- what a writer leaves in the buffer
pub mod Records
-- one call of a list is the machine's reply
pub mod Calls
-- every list of calls is the machine
pub mod Lists
-- what is decided is right
pub mod Decided
-- the distance of a row of a table, and the gate rule, by its true inputs
pub mod TrueInputs
-- the fresh job of a table, by its rows that are cared for
pub mod FreshJobs
-- the trace of a table's job, by its rows
pub mod Traces
-- the mean of a report: at most half a tenth off, and even on the half
pub mod Mean
-- the height of a witness by the manual's page, over the rows of either value
pub mod Heights
-- tables from hex digits and words
pub mod Elsewhere
