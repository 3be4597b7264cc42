-- vectors and counts compared whole
pub mod TestLaws
