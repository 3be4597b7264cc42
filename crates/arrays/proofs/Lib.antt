-- an array that a list is copied into
pub mod CopyLaws
-- the numbers of a gate, put into what is lent, and returned
pub mod PutLaws
