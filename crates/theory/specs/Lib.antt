-- what bounds a job: squares and the factor of a gate
pub mod Bound
-- the marked cases m1 to m10
pub mod Cases
