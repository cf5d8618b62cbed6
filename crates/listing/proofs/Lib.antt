-- The laws of listings: lengths, the table of card bytes, and the ways in which both calls end.
pub mod ListingLaws
pub mod EndLaws
