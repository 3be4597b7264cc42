-- a gate as text
pub mod GateText
-- a witness as text
pub mod WitnessText
