-- How card bytes are taken.
pub mod Cards
pub mod Parts
