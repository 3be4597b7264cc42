-- a record of a report, of the kinds of tables alone
pub mod ReadLaws
