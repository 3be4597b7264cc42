-- the bytes of words, by their rows
pub mod WordLaws
