-- The samples of a trace, from pairs to words, exactly and to the nearest.
pub mod Samples
pub mod Pairs
pub mod Nearest
