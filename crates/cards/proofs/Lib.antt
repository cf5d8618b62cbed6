-- A word of eight card bytes: what one step does to each of its bytes, and what it says of all of them.
pub mod EachLaws
pub mod EightLaws
pub mod Theorems
