-- fields read one after another
pub mod FieldLaws
-- bytes that stand at a position of others
pub mod StandsLaws
-- bytes written into a buffer: room, the next field, nothing past it
pub mod WrittenLaws
-- numbers, written and read
pub mod NumberLaws
-- the kind byte, written and read
pub mod KindLaws
-- n and the bits of a table, written and read
pub mod TableFieldLaws
-- weights and a vector, written and read
pub mod VectorFieldLaws
-- the bytes of weights one by one
pub mod WeightLaws
-- a pair of a row list, written and read
pub mod PairLaws
-- counts stored pair by pair
pub mod CountsLaws
-- a row list that is written is read
pub mod RowListRead
-- pairs that are read have rising rows
pub mod RisingPairs
-- what reading a row list gives, part by part
pub mod RowListParts
-- a row list that is read is written
pub mod RowListWritten
