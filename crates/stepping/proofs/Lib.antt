-- the steps of a budget in parts
pub mod LeftLaws
