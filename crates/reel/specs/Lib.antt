-- The layout of a reel, the causes against it, and what it means, all from the reel's own bytes.
pub mod Layout
pub mod Causes
pub mod Meaning
pub mod Parts
pub mod NotNormal
pub mod Judged
