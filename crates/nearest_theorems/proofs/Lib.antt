-- The theorems about nearest writing, and what they rest on.
pub mod Refusals
pub mod Values
pub mod Meanings
pub mod WrittenWords
pub mod Reels
pub mod Theorems
