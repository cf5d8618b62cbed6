-- The theorems about Eagle reels, and what they rest on.
pub mod Refusals
pub mod TraceLaws
pub mod PlainLaws
pub mod AlikeLaws
pub mod Theorems
