-- what was written is read: `body_read` of any body wherever it stands, `read_back` of a whole record
pub mod ReadBack
-- what was read is written: `body_written` of any body wherever it stands, `write_back` of a whole record
pub mod WriteBack
-- what a record that keeps its rules keeps
pub mod KeptLaws
-- what a call that writes comes to
pub mod WriteLaws
