-- the bits of rows in bytes that are made of others
pub mod BitLaws
-- the distance of a row of a block, and the lowest failing row of a table that repeats its rows
pub mod BlockLaws
-- the bits of a key, the least of some keys, and the key of the lowest failing row
pub mod KeyLaws
-- the search of a block by its least key, block after block
pub mod SearchLaws
