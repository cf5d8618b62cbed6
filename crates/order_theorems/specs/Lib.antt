-- What the theorems about the order of records are stated with: the order of meanings, words read as sign and magnitude, the front of a record,
-- and the table of the call.
pub mod MeaningKey
pub mod SignedWord
pub mod Front
pub mod CompareTable
