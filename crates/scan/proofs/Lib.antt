-- the distance of a partner and of row 0, and the size of a distance
pub mod DistanceLaws
-- the list of the rows' bits
pub mod ValueLaws
-- the search for the lowest failing row by blocks
pub mod ScanLaws
