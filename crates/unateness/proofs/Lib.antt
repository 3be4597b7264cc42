-- the bytes of a table as words, its sides, and the pairs of an input
pub mod PairLaws
-- a row turns the value by its side and its partner's; a search finds one if some word of them is not 0
pub mod TurnLaws
-- the rows of a binate input's pairs, and a search that finds none
pub mod BinateLaws
