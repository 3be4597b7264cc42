-- rules in their order, and the refusal of the first broken one
pub mod Refusal
-- the rules of a table, which every call that takes one begins with
pub mod TableRules
