-- the sums over the rows of one side: their bounds, and an array of them
pub mod SideLaws
-- how many true rows there are, and q of a place
pub mod ChowLaws
