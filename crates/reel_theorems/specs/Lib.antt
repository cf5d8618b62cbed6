-- The table of the causes 1 to 9, 18 and 19, row by row.
pub mod ReelTable
