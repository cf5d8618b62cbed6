-- Big-endian numbers, two's complement, sign and magnitude, byte numbers and places, walks over lists, the first cause, the outcome of a call, statements that
-- hold in the same cases, and the terms of theorems.
pub mod BigEndian
pub mod TwosComplement
pub mod Places
pub mod Walk
pub mod SignMagnitude
pub mod First
pub mod Cause
pub mod Outcome
pub mod Iff
pub mod Terms
