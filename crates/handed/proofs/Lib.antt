-- what is handed back with the corrections made: bytes, and what is taken of the job after a carry-on
pub mod HandedLaws
-- a decided job and a job that was carried on keep their rules, and K has grown by the corrections made
pub mod DecidedLaws
