-- tables as hex digits
pub mod Digits
