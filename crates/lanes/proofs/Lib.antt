-- what each place of a vector's sums holds, how large the sums are, and how much a correction adds
pub mod SumsLaws
-- sums that are made by doubling, input by input
pub mod DoublingLaws
-- the vector back from its sums; vectors whose sums agree are equal
pub mod WeightLaws
