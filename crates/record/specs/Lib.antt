-- The record of a meaning, its form, what it holds, the causes 12 and 13 against it, and what the calls on whole reels and records answer.
pub mod Kind
pub mod Record
pub mod Form
pub mod Held
pub mod Answer
pub mod Parts
pub mod Judged
