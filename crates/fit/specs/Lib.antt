-- The causes against writing a record under a target code.
pub mod Target
pub mod Parts
