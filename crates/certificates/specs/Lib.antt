-- what a call looks at in a record that was read
pub mod Certificate
