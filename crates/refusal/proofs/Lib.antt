-- a refusal is given exactly if its rule is the first broken one
pub mod RefusalLaws
-- what a status says of every call that begins with the rules it tested
pub mod StatusLaws
-- the same of the rules of a table, and what a table that keeps them has: at most eight inputs, no spare bit, no value on a row not cared for
pub mod TableChecked
