-- the lines one after another are the report
pub mod ReportLaws
-- the next line by its cases
pub mod AdvanceLaws
-- how many lines are left
pub mod LeftLaws
-- the lines that fill a buffer
pub mod FillLaws
