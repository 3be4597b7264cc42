-- rows in blocks of 32
pub mod Blocks
-- a vector as 40 sums
pub mod Sums
-- numbers that stand for rows
pub mod Codes
