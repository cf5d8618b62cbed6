-- The theorems about single samples.
pub mod Pairs
pub mod Words
pub mod RoundTrips
pub mod Edges
