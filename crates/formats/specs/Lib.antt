-- The format codes, what a format is, the exact value of a word, the word of a value, and the nearest value of a code.
pub mod Format
pub mod Codes
pub mod Value
pub mod Written
pub mod Words
pub mod Nearest
pub mod Steps
