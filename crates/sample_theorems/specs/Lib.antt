-- What the theorems about single samples say, beside the definitions of the crates below.
pub mod Statements
pub mod Starred
