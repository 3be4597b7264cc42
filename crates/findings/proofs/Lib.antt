-- what a call answers of a gate or a witness found
pub mod FindingLaws
