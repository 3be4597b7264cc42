-- what a call takes of a record
pub mod Taken
-- the calls on a record that need a part of it
pub mod Requests
