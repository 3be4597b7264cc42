-- the record of a sound job is refused for its room alone, and takes at most 2,048 bytes
pub mod OutcomeLaws
