-- sums over the numbers below a bound, and of weights times levels
pub mod Sum
-- tests that compute: of numbers, of integers, of lists, at each number below a bound, and the lowest that passes
pub mod Tests
-- the list of a function's values, and lists that hold them
pub mod Tabulate
-- the highest power of two
pub mod Power
-- numbers by their bits
pub mod Packed
