-- the digits of a number and how many there are; a text written from its end; texts in turn
pub mod DecimalLaws
-- a text written field by field: what is left to write, and the room for it
pub mod FieldWriting
