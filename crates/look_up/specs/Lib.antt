-- Looking up one header field of a reel, and what the parts of the call are.
pub mod LookUp
pub mod Parts
