-- The digest of bytes.
pub mod Digest
