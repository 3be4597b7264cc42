-- Chow's parameters as bytes, and bytes as a loop stores them
pub mod ByteLaws
