-- what each call of the C interface comes to
pub mod Interface
