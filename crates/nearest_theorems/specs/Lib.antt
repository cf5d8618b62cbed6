-- What the theorems about nearest writing are stated with: the table of the call, and what it gives.
pub mod NearestTable
pub mod Results
