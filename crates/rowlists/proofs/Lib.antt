-- the reading of the pairs of a row list, step by step
pub mod RowsLaws
-- the bytes of a row list, pair by pair
pub mod RowParts
