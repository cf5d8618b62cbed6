-- Samples in several fields: how many fields, and the place of each field and of each sample.
pub mod Fields
