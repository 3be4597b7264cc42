-- hex digits as the bits of a byte
pub mod DigitLaws
