-- numbers in base ten, and the fields of a line, as bytes
pub mod Text
