-- a loop that searches ahead, beside the machine
pub mod UnsettledLaws
-- the code of the row that a search found
pub mod CodeLaws
-- what clearing the counts leaves
pub mod ClearLaws
-- where the loop stands beside the machine
pub mod FollowLaws
-- a pass of the loop is a step; where the loop ends
pub mod ChunkLaws
