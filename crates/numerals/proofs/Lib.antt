-- the groups of a number, one by one
pub mod GroupLaws
-- weights read place by place
pub mod PlaceLaws
