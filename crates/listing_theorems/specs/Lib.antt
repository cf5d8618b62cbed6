-- What the theorems about listings are stated with: the table of each call, and what the calls give.
pub mod ListingTable
pub mod Results
