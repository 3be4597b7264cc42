-- each line of a report
pub mod Lines
-- the whole report
pub mod Report
