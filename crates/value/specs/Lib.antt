pub mod Pair
pub mod Writing
pub mod Parts
