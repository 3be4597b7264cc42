-- lists of integers by their entries: a computed test of a table, arrays filled in part, values in two parts
pub mod Entries
-- the inputs that two rows share, low and higher ones
pub mod SharedLaws
-- the sums of a corrected vector, place by place and as code makes them
pub mod CorrectionLaws
