-- what a call takes of a record that was read
pub mod TakenLaws
