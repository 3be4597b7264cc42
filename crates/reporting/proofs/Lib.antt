-- the line of a record fits into the room of a line
pub mod RecordRoom
-- the mean by where the exact one lies
pub mod MeanLaws
-- the last line and that of a refusal fit; no line is empty
pub mod RoomLaws
