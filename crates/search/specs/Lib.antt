-- the keys of rows, and how the search compares them
pub mod Keys
