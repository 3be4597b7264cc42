-- the number that a call of the C interface returns
pub mod Result
