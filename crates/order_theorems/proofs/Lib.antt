-- The theorems about the order of records, and what they rest on.
pub mod Chain
pub mod Meanings
pub mod Refusals
pub mod WordOrder
pub mod Fronts
pub mod Theorems
