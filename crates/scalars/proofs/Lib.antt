-- The laws of scalars.
pub mod Fit32
pub mod Found
pub mod Quotients
pub mod Powers
pub mod Laws
pub mod Meant
pub mod Examples
