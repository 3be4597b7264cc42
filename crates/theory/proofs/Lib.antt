-- the perceptron convergence theorem, over any machine
pub mod Perceptron
-- the correction of a row as a vector
pub mod Corrections
-- the machine is a perceptron
pub mod MachineWalk
-- the bounds on a state from the fresh one
pub mod Bound
-- what an ended state shows, from soundness alone
pub mod Answers
-- a function that has a gate is found by its bound
pub mod Completeness
-- the marked cases hold
pub mod Cases
