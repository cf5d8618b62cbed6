-- What the theorems of the three demands are stated with: valid records, words of a value, the table of each call, what the calls give, what a record holds of scaled values, and the words of a reel that are not normal.
pub mod ValidRecord
pub mod Words
pub mod Tables
pub mod Results
pub mod Scalars
pub mod NotNormal
