-- integers as differences of natural numbers, so that `omega` proves facts on them
pub mod Int
-- integers as a ring: products, two normalisers, orders of products and squares
pub mod Ring
-- signed numbers at two widths: sizes, casts to a wider one, elements of an array
pub mod Widths
-- sums over the numbers below a bound, and weighted sums
pub mod SumLaws
-- what a test says, and the test of what holds
pub mod TestLaws
-- the search for the lowest number that passes a test
pub mod FirstLaws
-- the list of a function's values, and the loop that fills an array with them
pub mod TabulateLaws
-- powers of two, and the highest: what it is, and how it goes on from a number to the next
pub mod PowerLaws
-- the bits of a number under the operations on words
pub mod PackedLaws
