-- The theorems about listings, and what they rest on.
pub mod Refusals
pub mod Text
pub mod Replaced
pub mod Theorems
