-- a record as its kind byte and its parts
pub mod RecordParts
-- how many bytes a body takes, and a body as it is written
pub mod BodyLaws
