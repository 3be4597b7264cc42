-- what each row adds to a witness's height, and its most
pub mod HeightLaws
-- the pairs of a witness's text, row by row
pub mod PairTextLaws
-- the weights of a gate
pub mod WeightLaws
