-- The samples of a trace, from words to pairs.
pub mod Samples
pub mod Parts
