-- the sizes of what the test of a trace adds and compares
pub mod SizeLaws
