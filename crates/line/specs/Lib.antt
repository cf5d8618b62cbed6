-- Decimal text, what it is, a text at the front of an array, and the program's line.
pub mod Decimal
pub mod DecimalText
pub mod Front
pub mod Line
