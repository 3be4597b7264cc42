-- the values of a table's rows as bits of words
pub mod Words
