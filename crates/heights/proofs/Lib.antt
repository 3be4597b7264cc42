-- how many inputs of a row are true at most, and among eight; and what an entry of the page is
pub mod PageLaws
