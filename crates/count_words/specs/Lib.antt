-- How many of some words are not normal: what `count_words` gives, and what its functions hand to each other.
pub mod Counted
pub mod Parts
