-- a correction by a row of a table widens the range of a vector by 1
pub mod RangeLaws
