-- a table whose rules are kept with those of a gate has at most eight inputs
pub mod GateChecked
-- a table made of up to eight inputs has every row cared for
pub mod WholeLaws
