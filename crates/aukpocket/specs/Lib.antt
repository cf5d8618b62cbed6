-- What the C functions hand back.
pub mod Interface
