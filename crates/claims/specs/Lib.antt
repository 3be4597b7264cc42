-- the cell: numbers on their conditions, the checker, and what a balanced witness excludes
pub mod Claims
-- the definitions over any function, at a table: document 01's own words
pub mod Tables
-- jobs: numbers on their conditions, soundness, what is shown, and the bounds
pub mod Jobs
-- records: written and read are inverse
pub mod Records
-- demand 3: every list of calls is the machine
pub mod Lists
-- the report is its lines, and its mean is rounded
pub mod Report
-- what a user meets, the report and the C records, is right
pub mod Decided
-- tables from hex digits and words mean what they say, row by row
pub mod Elsewhere
