-- The order of records (document 02, CR 9).
pub mod Key
pub mod Answer
pub mod Parts
