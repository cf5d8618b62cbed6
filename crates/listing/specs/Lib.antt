-- The listing of a record's cards and the text of a listing, by a table; the complete outcome of both calls; and parts of them for the
-- functions inside this crate.
pub mod Listing
pub mod Calls
pub mod Parts
