-- what reading a field at a position gives
pub mod Field
-- bytes written into a lent buffer
pub mod Written
-- numbers in groups of seven bits, signed ones too
pub mod Number
-- the kind byte, and the family of records that it stands for
pub mod Kind
-- n and the bits of a table
pub mod TableField
-- the weights and T of a gate, v and s of a job
pub mod VectorField
-- the counts of a witness and of a job
pub mod RowList
