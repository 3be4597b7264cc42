-- the lists in which the search for the lowest failing row works
pub mod Scan
