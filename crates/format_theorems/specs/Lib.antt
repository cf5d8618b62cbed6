-- What the theorems about formats say, beside the definitions of the crates below.
pub mod Statements
pub mod Nearness
