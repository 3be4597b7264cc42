-- kinds and Chow's parameters as bytes
pub mod Inputs
